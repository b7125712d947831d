use Rattle.lrat_checker.proofs.checker.LratChecker.new.Goals as goal

pub returns-clause-ready : goal.returns-clause-ready
returns-clause-ready c = c.checker.ensures.ready c.args.formula.now c.in_ok-of.ensures

pub returns-clause-tight : goal.returns-clause-tight
returns-clause-tight c = c.checker.ensures.tight c.args.formula.now c.in_ok-of.ensures
