use Rattle.std.proofs.Common.{◌≡◌, ◌+◌, ◌<◌, ◌^◌, suc, length}
use Rattle.lrat_to_proof.specs.Holding.{formula_holding, hold_from}
use Rattle.lrat_to_proof.specs.Standing.{holding_of}
use Rattle.lrat_to_proof.proofs.holding.Holding.new.Given as goal

-- with the clauses still to come, the whole formula is held
abbrev pub invariant-loop-clause : goal.invariant-loop-clause
invariant-loop-clause l = (hold_from (suc l.id) l.clause-iterator (holding_of l.made) ≡ formula_holding l.formula)
    × (l.id + length l.clause-iterator ≡ length l.formula) × (length l.formula < 2 ^ 64)
