use Rattle.std.proofs.Common.{sym, ◌∙◌, arith}
use Rattle.sat_formula.proofs.ShortNumbers.{digits_below, digits_none, digits_more}
use Rattle.sat_formula.proofs.ahead.few_digits.Goals as goal

pub digits-init : goal.digits-init
digits-init c = record { few = omega arith; bounded = omega arith; digits = digits_none c.args.bytes.now }

pub digits-preserved : goal.digits-preserved
digits-preserved c =
    let more = digits_more c.args.bytes.now c.digits.len c.digits.value c.digits.invariant.digits (omega (arith, c.digits-test.true, c.requires)) c.digits-test.true
    (sym c.is_digit.ensures ∙ c.if-is_digit.true) in
    record { few = omega (arith, c.digits-test.true); bounded = digits_below _ _ _ (omega (arith, c.digits-test.true)) more; digits = more }
