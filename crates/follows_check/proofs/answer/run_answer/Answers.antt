use Rattle.std.proofs.Common.{◌≡◌}
use Rattle.follows_check.specs.declared.verdict.Verdict.TheVariants.{NotFollows}
use Rattle.follows_check.proofs.AnswerLemmas.{not_follows}
use Rattle.follows_check.proofs.Answered.{answered, cut_answered, unclaimed}
use Rattle.follows_check.proofs.answer.run_answer.Goals as goal

pub returns-in-Some-clause-run : goal.returns-in-Some-clause-run
returns-in-Some-clause-run g c = cut_answered _ _ c.in-Ok.literals c.in-Ok-judge.judged.verdict _ _ c.in-Some.is c.in-Ok.ensures.lists c.in-Ok-judge.ensures.whole

pub returns-clause-run : goal.returns-clause-run
returns-clause-run g c =
    unclaimed _ _ _ c.in-Ok.literals c.in-Ok-judge.judged.verdict _ c.in-None.is c.in-Ok.ensures.lists c.in-Ok-judge.ensures.whole c.in-Err-find_failing.fault c.in-Err-find_failing.ensures.fault

pub returns-in-Ok-find_failing-clause-run : goal.returns-in-Ok-find_failing-clause-run
returns-in-Ok-find_failing-clause-run g c =
    answered _ _ _ c.in-Ok.literals c.in-Ok-judge.judged.verdict _ c.in-Ok-find_failing.failing _ c.in-None.is c.in-Ok.ensures.lists c.in-Ok-judge.ensures.whole c.in-Ok-find_failing.ensures.found
    c.verdict_of.ensures

pub returns-in-Ok-find_failing-clause-fails : goal.returns-in-Ok-find_failing-clause-fails
returns-in-Ok-find_failing-clause-fails g c = λ text said claim line of_cnf of_claims found.
    let is : c.verdict_of.result ≡ NotFollows claim line = cc in
    let shown = answered (g.F.Read.remaining c.args.cnf) (g.C.Read.remaining c.args.claims) (g.P.Read.remaining c.args.answer) c.in-Ok.literals c.in-Ok-judge.judged.verdict _ c.in-Ok-find_failing.failing
    c.verdict_of.result c.in-None.is c.in-Ok.ensures.lists c.in-Ok-judge.ensures.whole c.in-Ok-find_failing.ensures.found c.verdict_of.ensures in
    not_follows _ _ _ text said claim line of_cnf of_claims (rw is at shown)
