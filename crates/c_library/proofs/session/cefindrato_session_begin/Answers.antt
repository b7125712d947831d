use Rattle.std.proofs.Common.{sym, ◌∙◌}
use Rattle.c_library.proofs.AcceptedCalls.{accepted}
use Rattle.c_library.proofs.session.cefindrato_session_begin.Goals as goal

pub returns-clause-given : goal.returns-clause-given
returns-clause-given c = λ is. accepted c.begin.result _ (sym c.of.ensures.status ∙ is) c.begin.ensures.given

pub returns-clause-run : goal.returns-clause-run
returns-clause-run c = (c.begin.result, (c.of.ensures.status, c.of.ensures.cause, c.of.ensures.clause), ((c.begin.ensures.ok, c.begin.ensures.refused), c.begin.ensures.given, c.begin.ensures.named, c.begin.ensures.kept))
