-- Formulas that no assignment satisfies.
--     IsRefuted text      no assignment satisfies the clauses of the text
use Rattle.std.specs.Prelude.{◌≡◌, ℕ, Bool, false, List}
use Rattle.sat_rules.specs.Clauses.{all_true}
use Rattle.sat_formula.specs.Lines.{outcome_of}
use Rattle.sat_formula.specs.Outcome.{Ended}

-- the text has no fault, and no assignment makes all its clauses true
abbrev pub IsRefuted : List ℕ → Type 0
IsRefuted text = (clauses : List (List ℕ)) × (outcome_of text ≡ (clauses, Ended))
    × ((a : ℕ → Bool) → all_true a clauses ≡ false)
