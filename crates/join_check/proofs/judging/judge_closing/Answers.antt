use Rattle.std.proofs.Common.{refl, sym, ◌∙◌}
use Rattle.join_check.specs.Shown.{IsPartShown}
use Rattle.join_check.proofs.Parting.{all_parts, shown_by, unshown_by}
use Rattle.join_check.proofs.judging.judge_closing.Goals as goal

pub returns-then-has : goal.returns-then-has
returns-then-has c = λ formula are all units. rw c.verified.ensures
    (refl, all_parts (IsPartShown c.args.receipts.now formula) c.args.cubes.now units (shown_by c.args.texts.now formula _ _ c.args.receipts.now c.args.shown.now c.in_ok-digest.ensures are all (sym c.has.ensures ∙ c.if-has.true)))

pub returns-else-has : goal.returns-else-has
returns-else-has c = λ formula are all units. (units, unshown_by c.args.texts.now formula _ _ c.args.receipts.now c.args.shown.now c.in_ok-digest.ensures are all (sym c.has.ensures ∙ c.if-has.false))
