use Rattle.c_library.proofs.session.cefindrato_session_delete.Goals as goal

pub returns-clause-run : goal.returns-clause-run
returns-clause-run c = (c.delete.result, (c.of.ensures.status, c.of.ensures.cause, c.of.ensures.clause), ((c.delete.ensures.ok, c.delete.ensures.refused), c.delete.ensures.named))
