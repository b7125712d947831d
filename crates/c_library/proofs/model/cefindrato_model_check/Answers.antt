use Rattle.std.proofs.Common.{refl, sym, ◌∙◌}
use Rattle.c_library.proofs.VerifiedRuns.{model_verified}
use Rattle.c_library.proofs.model.cefindrato_model_check.Goals as goal

pub returns-clause-satisfies : goal.returns-clause-satisfies
returns-clause-satisfies c = λ is. c.run_check-outcome.ensures.satisfies c.args.cnf.now c.args.answer.now refl refl (model_verified c.run_check-outcome.result (sym c.status.ensures ∙ is))
