use Rattle.c_library.proofs.checker.cefindrato_checker_add_clause.Goals as goal

pub returns : goal.returns
returns c = record { run = (c.add_clause.result, (c.of.ensures.status, c.of.ensures.cause, c.of.ensures.step), (c.add_clause.ensures.call, c.add_clause.ensures.sets, c.add_clause.ensures.covers)) }
