-- What a text says in all: its clauses, and how it ends.
use Rattle.std.specs.Prelude.{ℕ, ◌+◌, ◌-◌, ◌^◌, min, List, [], ◌∷◌}
use Rattle.sat_formula.specs.declared.fault.DimacsKind.{DimacsKind}
use Rattle.sat_formula.specs.declared.fault.DimacsKind.TheVariants.{UnterminatedClause}

-- well, or with a fault and its line
pub data Ending : Type 0 where
  Ended : Ending
  Faulty : ℕ → DimacsKind → Ending

-- the clauses that end before it, and the ending
abbrev pub Outcome : Type 0
Outcome = List (List ℕ) × Ending

-- an outcome with this clause in front
abbrev pub with_clause : List ℕ → Outcome → Outcome
with_clause clause o = (clause ∷ o.0, o.1)

-- the end of a formula on this line, with the literals of an unfinished clause
abbrev pub finish : ℕ → List ℕ → Ending
finish line [] = Ended
finish line (l ∷ lits) = Faulty line UnterminatedClause

-- the number of the next line; it stays at its end
abbrev pub next_line : ℕ → ℕ
next_line line = min (line + 1) (2 ^ 64 - 1)
