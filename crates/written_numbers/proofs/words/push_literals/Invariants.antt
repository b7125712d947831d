use Rattle.std.proofs.Common.{◌≡◌, ◌++◌, drop, map}
use Rattle.written_numbers.specs.Words.{literal_text, spaced}
use Rattle.written_numbers.proofs.words.push_literals.Given as goal

-- what is pushed, and what is still to come, are all of it
abbrev pub invariant-loop-lit : goal.invariant-loop-lit
invariant-loop-lit l = l.text.items ++ spaced (map literal_text (drop l.lit-index l.lits)) ≡ l.fn.text.items ++ spaced (map literal_text l.lits)
