-- What one piece of a proof shows.
--     Carries cs ds      where some assignment makes all of cs true, some makes all of ds true
--     PieceCarries      accepted lines carry a formula to clauses that are stored after them
use Rattle.std.specs.Prelude.{◌≡◌, ℕ, Bool, true, List, Some}
use Rattle.sat_rules.specs.Clauses.{all_true}
use Rattle.sat_rules.specs.Named.{Item, NamedBy}
use Rattle.lrat_rules.specs.Lines.{Line, run}
use Rattle.lrat_rules.specs.Stores.{find, formula_store}

-- the other assignment may be another one: a clause can be redundant without being a consequence
abbrev pub Carries : List (List ℕ) → List (List ℕ) → Type 0
Carries cs ds = (a : ℕ → Bool) → all_true a cs ≡ true → (b : ℕ → Bool) × (all_true b ds ≡ true)

-- where the lines are accepted, and the ids name the target clauses after them
abbrev pub PieceCarries : Type 0
PieceCarries = (formula wanted : List (List ℕ)) (ids : List ℕ) (st : List Item) (ls : List Line)
    → run (formula_store formula) ls ≡ Some st → NamedBy (find st) ids wanted
    → Carries formula wanted
