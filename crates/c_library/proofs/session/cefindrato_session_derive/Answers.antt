use Rattle.c_library.proofs.session.cefindrato_session_derive.Goals as goal

pub returns-clause-run : goal.returns-clause-run
returns-clause-run c = (c.derive.result, (c.of.ensures.status, c.of.ensures.cause, c.of.ensures.clause), ((c.derive.ensures.ok, c.derive.ensures.refused), c.derive.ensures.named, c.derive.ensures.kept))
