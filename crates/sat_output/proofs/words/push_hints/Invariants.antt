use Rattle.std.proofs.Common.{◌≡◌, ◌++◌, drop, map}
use Rattle.lrat_text.specs.Grammar.{hint_of}
use Rattle.written_numbers.specs.Words.{spaced}
use Rattle.sat_output.specs.LratTexts.{hint_text}
use Rattle.sat_output.proofs.words.push_hints.Given as goal

-- what is pushed, and what is still to come, are all of it
abbrev pub invariant-loop-hint : goal.invariant-loop-hint
invariant-loop-hint l = l.text.items ++ spaced (map hint_text (map hint_of (drop l.hint-index l.hints))) ≡ l.fn.text.items ++ spaced (map hint_text (map hint_of l.hints))
