use Rattle.follows_check.proofs.failing.ClaimJudgeClauseSink.take.Goals as goal

pub returns : goal.returns
returns c = λ first claims lines p number place. (p.0, rw p.0 at (c.after_claim-self.ensures claims lines (rw p.0 p.1) number place))
