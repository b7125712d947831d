use Rattle.std.proofs.Common.{◌≡◌, refl, sym, ap, ◌∙◌}
use Rattle.clause_table.specs.Values.{among}
use Rattle.clause_table.specs.declared.values.Left.TheVariants.{One}
use Rattle.hint_checker.proofs.UnitLemmas.{finds, finds_none}
use Rattle.hint_checker.proofs.listing.unit.Goals as goal

pub returns : goal.returns
returns c =
    let s = among c.args.values.now in
    let lit = c.in-One.lit in
    finds s c.args.clause.now (One lit) c.in-One.ensures lit refl (sym c.is_true.ensures ∙ c.if-is_true.false)

pub returns-then-is_true : goal.returns-then-is_true
returns-then-is_true c =
    let s = among c.args.values.now in
    let lit = c.in-One.lit in
    finds_none s c.args.clause.now (One lit) c.in-One.ensures (λ l is. let same : lit ≡ l = cc in ap s (sym same) ∙ sym c.is_true.ensures ∙ c.if-is_true.true)

pub returns-in_default : goal.returns-in_default
returns-in_default c = finds_none (among c.args.values.now) c.args.clause.now c.left.result c.left.ensures (λ l is. absurd (c.in_default.not-One l is))
