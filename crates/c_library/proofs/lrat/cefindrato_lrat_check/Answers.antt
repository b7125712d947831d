use Rattle.std.proofs.Common.{refl, sym, ◌∙◌}
use Rattle.c_library.proofs.VerifiedRuns.{lrat_verified}
use Rattle.c_library.proofs.lrat.cefindrato_lrat_check.Goals as goal

pub returns-clause-refutes : goal.returns-clause-refutes
returns-clause-refutes c = λ is. c.run_check-outcome.ensures.refutes c.args.cnf.now refl (lrat_verified c.run_check-outcome.result (sym c.status.ensures ∙ is))
