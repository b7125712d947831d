use Rattle.std.proofs.Common.{◌≡◌, ℕ, List, ◌++◌}
use Rattle.lrat_checker.specs.Standing.{HoldsFormula}
use Rattle.lrat_checker.proofs.formula.LratFormula.of.Given as goal

-- the clauses that are not still to come were given
abbrev pub invariant-loop-clause : goal.invariant-loop-clause
invariant-loop-clause l = (given : List (List ℕ)) × (given ++ l.clause-iterator ≡ l.formula) × HoldsFormula given l.made
