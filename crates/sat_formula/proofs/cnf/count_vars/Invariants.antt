use Rattle.std.proofs.Common.{◌≡◌, drop}
use Rattle.sat_formula.specs.Formula.{vars_with}
use Rattle.sat_formula.proofs.cnf.count_vars.Given as goal

abbrev pub invariant-lits : goal.invariant-lits
invariant-lits l = vars_with l.most (drop l.lit-index l.clause) ≡ vars_with l.count l.clause
