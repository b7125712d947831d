use Rattle.std.proofs.Common.{◌≡◌, ◌++◌, ◌^◌, ◌<◌, drop, map, take}
use Rattle.std.specs.Prelude.{All}
use Rattle.lrat_text.specs.Grammar.{hint_of}
use Rattle.sat_output.specs.LratBytes.{hint_id, hint_number, numbers_bytes}
use Rattle.sat_output.proofs.binary.push_hints.Given as goal

-- what is pushed, and what is still to come, are all of it; the ids so far are below 2^63
abbrev pub invariant-loop-hint : goal.invariant-loop-hint
invariant-loop-hint l = record {
  pushed : l.bytes.items ++ numbers_bytes (map hint_number (map hint_of (drop l.hint-index l.hints))) ≡ l.fn.bytes.items ++ numbers_bytes (map hint_number (map hint_of l.hints));
  small : All (λ hint. hint_id (hint_of hint) < 2 ^ 63) (take l.hint-index l.hints);
}
