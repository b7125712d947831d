use Rattle.std.proofs.Common.{sym, ◌∙◌}
use Rattle.lrat_rules.proofs.Running.{runs_refute}
use Rattle.lrat_checker.proofs.checker.LratChecker.refuted.Goals as goal

pub returns-clause-refutes : goal.returns-clause-refutes
returns-clause-refutes c formula lines h e a t = runs_refute formula lines (sym h.refuted ∙ e) a t
