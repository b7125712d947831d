use Rattle.std.proofs.Common.{◌≡◌}
use Rattle.follows_check.specs.declared.verdict.Verdict.TheVariants.{Follows}
use Rattle.follows_check.proofs.Shown.{shown_on, text_follows}
use Rattle.follows_check.proofs.run.run_proof.Goals as goal

pub returns-in-Ok-refute-clause-run : goal.returns-in-Ok-refute-clause-run
returns-in-Ok-refute-clause-run g c =
    rw c.verdict_on.ensures (shown_on _ _ c.in-Ok.asked c.in-Ok.ensures.asked c.in-Ok-refute.refuted c.in-Ok-refute.ensures)

pub returns-in-Ok-refute-clause-follows : goal.returns-in-Ok-refute-clause-follows
returns-in-Ok-refute-clause-follows g c = λ text said of_cnf of_claims verified.
    let is : c.verdict_on.result ≡ Follows = cc in
    let shown = shown_on (g.F.Read.remaining c.args.cnf) (g.C.Read.remaining c.args.claims) c.in-Ok.asked c.in-Ok.ensures.asked c.in-Ok-refute.refuted c.in-Ok-refute.ensures in
    text_follows _ _ text said of_cnf of_claims (rw (← c.verdict_on.ensures, is) at shown)
