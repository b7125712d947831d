-- The variables of two circuits in one formula.
--     HasPlaces c c' p      the places of two circuits
use Rattle.std.specs.Prelude.{◌≡◌, ◌≤◌, ℕ, ◌+◌, ◌^◌, true, length}
use Rattle.circuit_rules.specs.Checks.{HavePlaces, lits_below}
use Rattle.circuit_text.specs.declared.circuit.Circuit.{Circuit}
use Rattle.circuit_clauses.specs.declared.places.Places.{Places}
use Rattle.circuit_clauses.specs.Causes.{gates_fit}
use Rattle.circuit_clauses.specs.Formulas.{gates_in}

-- the places for these numbers of inputs and of gates of both circuits
abbrev pub HasCounts : ℕ → ℕ → ℕ → Places → Type 0
HasCounts n gates gates' p =
    (p.shift.inputs ≡ n) × (p.shift.distance ≡ gates) × (p.differences ≡ n + 1 + gates + gates')

-- the places of two circuits; a formula can have them all
pub record HasPlaces (c c' : Circuit) (p : Places) : Type 0 where
  pub inputs : p.shift.inputs ≡ c.inputs
  pub as_many : c.inputs ≡ c'.inputs
  pub places : HavePlaces p.shift.inputs p.shift.distance p.differences (gates_in c) c.outputs.items (gates_in c') c'.outputs.items
  pub others_fit : gates_fit p.shift.distance (gates_in c') ≡ true
  pub outputs_fit : lits_below p.shift.distance (2 ^ 28) c'.outputs.items ≡ true
  pub differences_fit : p.differences + length c.outputs.items ≤ 2 ^ 28
