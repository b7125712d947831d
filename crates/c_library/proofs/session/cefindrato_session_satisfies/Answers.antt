use Rattle.std.proofs.Common.{sym, ◌∙◌}
use Rattle.c_library.proofs.AcceptedCalls.{accepted}
use Rattle.c_library.proofs.session.cefindrato_session_satisfies.Goals as goal

pub returns-clause-satisfies : goal.returns-clause-satisfies
returns-clause-satisfies c = λ cs was is. accepted c.satisfies.result _ (sym c.of.ensures.status ∙ is) c.satisfies.ensures.satisfies cs was

pub returns-clause-run : goal.returns-clause-run
returns-clause-run c = (c.satisfies.result, (c.of.ensures.status, c.of.ensures.cause, c.of.ensures.clause), ((c.satisfies.ensures.ok, c.satisfies.ensures.refused), c.satisfies.ensures.named))
