use Rattle.std.proofs.Common.{◌≡◌, true, arith}
use Rattle.follows_check.proofs.Needed.{shown_minimal}
use Rattle.follows_check.proofs.minimal.judge_core.Goals as goal

pub returns-in-Ok-check_models-clause-shown : goal.returns-in-Ok-check_models-clause-shown
returns-in-Ok-check_models-clause-shown g c =
    let yes : c.in-Ok.refuted ≡ true = grind (arith, c.if-not-refuted.false) in
    shown_minimal c.args.formula.now c.in-Ok-check_models.verdict (c.in-Ok.ensures yes) c.in-Ok-check_models.ensures.0
