use Rattle.std.proofs.Common.{◌≡◌, None}
use Rattle.model_check.specs.declared.verdict.Verdict.TheVariants.{Verified}
use Rattle.model_check.specs.Runs.{IsShown}
use Rattle.model_check.proofs.VerdictLemmas.{satisfied, shown}
use Rattle.model_check.proofs.run.run_check.Goals as goal

pub returns-in-Some-clause-run : goal.returns-in-Some-clause-run
returns-in-Some-clause-run g c = (c.in-Ok-judge.judged.verdict, shown _ _ c.in-Ok.literals _ _ _ c.in-Some.is c.in-Ok.ensures.lists c.in-Ok-judge.ensures.whole)

pub returns-clause-run : goal.returns-clause-run
returns-clause-run g c = shown _ _ c.in-Ok.literals c.in-Ok-judge.judged.verdict _ _ c.in-None.is c.in-Ok.ensures.lists c.in-Ok-judge.ensures.whole

pub returns-clause-satisfies : goal.returns-clause-satisfies
returns-clause-satisfies g c = λ text said of_cnf of_answer verified.
    let is : c.in-Ok-judge.judged.verdict ≡ Verified = cc in
    let on_both : IsShown (g.F.Read.remaining c.args.cnf) (g.P.Read.remaining c.args.answer) c.in-Ok-judge.judged.verdict None =
    shown _ _ c.in-Ok.literals _ _ _ c.in-None.is c.in-Ok.ensures.lists c.in-Ok-judge.ensures.whole in
    satisfied _ _ text said of_cnf of_answer (rw is at on_both)
