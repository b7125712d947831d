use Rattle.std.proofs.Common.{sym, ◌∙◌}
use Rattle.c_library.proofs.AcceptedCalls.{accepted}
use Rattle.c_library.proofs.session.cefindrato_session_fails.Goals as goal

pub returns-clause-fails : goal.returns-clause-fails
returns-clause-fails c = λ cs was is. accepted c.fails.result _ (sym c.of.ensures.status ∙ is) c.fails.ensures.fails cs was

pub returns-clause-run : goal.returns-clause-run
returns-clause-run c = (c.fails.result, (c.of.ensures.status, c.of.ensures.cause, c.of.ensures.clause), ((c.fails.ensures.ok, c.fails.ensures.refused), c.fails.ensures.named))
