-- What the bytes of a proof say, by the rules of its kind: its steps, and how it ends.
use Rattle.std.specs.Prelude.{ℕ, List, [], ◌∷◌, take, unwrap_or}
use Rattle.drat_text.specs.declared.bytes.Format.{Format}
use Rattle.drat_text.specs.declared.bytes.Format.TheVariants.{Text}
use Rattle.drat_text.specs.Bytes.{by_text_bytes}
use Rattle.drat_text.specs.Places.{Rules, Place, Outside, Goes, Gives, Stops, after, at_end}
use Rattle.drat_text.specs.Steps.{Outcome, Faulty, with_step}

-- from a place on
unfoldable pub outcome_at : {S T : Type 0} → Rules S T → Format → Place S → List ℕ → Outcome T
outcome_at r format p [] = at_end r p
outcome_at r format p (b ∷ bs) = elim (after r format p b) [
  | Goes q ↦ outcome_at r format q bs
  | Gives step ↦ with_step step (outcome_at r format Outside bs)
  | Stops kind ↦ ([], Faulty kind)
]

-- in a format
abbrev pub outcome_in : {S T : Type 0} → Rules S T → Format → List ℕ → Outcome T
outcome_in r format bytes = outcome_at r format Outside bytes

-- the format, by the first byte, or by the first 4,096
abbrev pub format_of : {S T : Type 0} → Rules S T → List ℕ → Format
format_of r [] = Text
format_of r (b ∷ bs) = unwrap_or (r.first_tells b) (by_text_bytes (take 4096 (b ∷ bs)))

-- the whole proof
abbrev pub outcome_of : {S T : Type 0} → Rules S T → List ℕ → Outcome T
outcome_of r bytes = outcome_in r (format_of r bytes) bytes
