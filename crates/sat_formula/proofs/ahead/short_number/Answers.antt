use Rattle.std.proofs.Common.{rules, refl, sym, ◌∙◌, arith}
use Rattle.sat_formula.proofs.ShortNumbers.{short}
use Rattle.sat_formula.proofs.ahead.short_number.Goals as goal

pub returns : goal.returns
returns c =
    short c.args.bytes.now _ _ c.few_digits-value.result.1 c.few_digits-value.result.0 _ refl (search rules) (omega (arith, c.if-bytes.false))
    c.few_digits-value.ensures.few c.if-digits-eq0.false c.few_digits-value.ensures.digits refl (sym c.ends_word.ensures ∙ c.if-not-ends_word.false)
