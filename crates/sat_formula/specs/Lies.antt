-- The mismatch between the header of a formula and its clauses.
--     lie_in text      the header of a text, where it says something else than the text's clauses
--     IsLie known told      this is reported of a text of these bytes
--     TellsLie known r told      it is reported if the text was read whole
use Rattle.std.specs.Prelude.{◌≡◌, ℕ, ◌-◌, ◌^◌, min, List, length, Option, None, Result, Ok, Err, IfSome}
use Rattle.sat_formula.specs.declared.counts.Counts.{Counts}
use Rattle.sat_formula.specs.declared.counts.LyingHeader.{LyingHeader}
use Rattle.sat_formula.specs.Counts.{lie_of}
use Rattle.sat_formula.specs.Formula.{var_count_of}
use Rattle.sat_formula.specs.Lines.{outcome_of}
use Rattle.sat_formula.specs.Notes.{header_of}

-- the number of variables, by the largest one, and that of clauses; a number of clauses stays at the largest of 64 bits
abbrev pub counts_of : List (List ℕ) → Counts
counts_of clauses = record {
  variables = var_count_of clauses;
  clauses = min (length clauses) (2 ^ 64 - 1);
}

-- the header of a text, where it says fewer variables than its clauses have, or another number of clauses
abbrev pub lie_in : List ℕ → Option LyingHeader
lie_in text = lie_of (header_of text) (counts_of (outcome_of text).0)

-- the mismatch of a text of these bytes, where they are known
abbrev pub IsLie : Option (List ℕ) → Option LyingHeader → Type 0
IsLie known told = IfSome known (λ text. told ≡ lie_in text)

-- it is reported of a text that was read whole, and nothing of another one
abbrev pub TellsLie : {A E : Type 0} → Option (List ℕ) → Result A E → Option LyingHeader → Type 0
TellsLie known (Ok read) told = IsLie known told
TellsLie known (Err fault) told = told ≡ None
