-- What the bytes of binary lines say: each line with its number, up to the end or to the first fault with its line. Lines count from 1.
use Rattle.std.specs.Prelude.{ℕ, List, [], ◌∷◌}
use Rattle.sat_formula.specs.Outcome.{next_line}
use Rattle.lrat_text.specs.declared.fault.LineKind.TheVariants.{Unfinished}
use Rattle.lrat_text.specs.Texts.{Outcome, Ended, Faulty, with_line}
use Rattle.lrat_binary.specs.declared.ids.Ids.{Ids}
use Rattle.lrat_binary.specs.Kinds.{line_kind}
use Rattle.lrat_binary.specs.Places.{Place, Outside, Within, InNumber, Goes, Gives, Stops, after}

-- the end of the input, after this many lines
abbrev pub at_end : ℕ → Place → Outcome
at_end before Outside = ([], Ended)
at_end before (Within slot) = ([], Faulty (next_line before) Unfinished)
at_end before (InNumber slot v weight) = ([], Faulty (next_line before) Unfinished)

-- from a place on, after this many lines
unfoldable pub outcome_at : Ids → ℕ → Place → List ℕ → Outcome
outcome_at ids before p [] = at_end before p
outcome_at ids before p (b ∷ bs) = elim (after ids p b) [
  | Goes q ↦ outcome_at ids before q bs
  | Gives line ↦
      with_line (next_line before) line (outcome_at ids (next_line before) Outside bs)
  | Stops kind ↦ ([], Faulty (next_line before) (line_kind kind))
]

-- the rest of a proof, after this many lines
abbrev pub binary_after : Ids → ℕ → List ℕ → Outcome
binary_after ids before bytes = outcome_at ids before Outside bytes

-- the whole proof
abbrev pub binary_of : Ids → List ℕ → Outcome
binary_of ids bytes = binary_after ids 0 bytes
