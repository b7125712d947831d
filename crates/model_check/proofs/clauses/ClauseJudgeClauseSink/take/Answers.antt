use Rattle.model_check.proofs.clauses.ClauseJudgeClauseSink.take.Goals as goal

pub returns : goal.returns
returns c = λ first clauses lines p number place. (p.0, rw p.0 at (c.after_clause-self.ensures clauses lines (rw p.0 p.1) number place))
