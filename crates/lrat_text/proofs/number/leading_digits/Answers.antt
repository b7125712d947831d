use Rattle.std.proofs.Common.{sym, ◌∙◌, arith}
use Rattle.std.proofs.Math.Nat.{pow-le-pow_right}
use Rattle.std.specs.Prelude.{slice_index}
use Rattle.lrat_text.proofs.FirstNumberLemmas.{digits_none, digits_more, small_more}
use Rattle.lrat_text.proofs.number.leading_digits.Goals as goal

pub digits-init : goal.digits-init
digits-init c = record { digits = digits_none c.args.bytes.now c.requires; small = omega arith }

pub overflow_mul-value : goal.overflow_mul-value
overflow_mul-value c =
    omega (arith, pow-le-pow_right {n = 10} (omega arith) {i = c.digits.len} {j = 17} (omega (arith, c.digits-test.true)), c.digits.invariant.small)

pub overflow_add-value : goal.overflow_add-value
overflow_add-value c =
    omega (arith, pow-le-pow_right {n = 10} (omega arith) {i = c.digits.len} {j = 17} (omega (arith, c.digits-test.true)), c.digits.invariant.small)

pub digits-preserved : goal.digits-preserved
digits-preserved c =
    let inv = c.digits.invariant in
    let bytes = c.args.bytes.now in
    let n = c.digits.len in
    let v = c.digits.value in
    let is_digit = sym c.is_digit.ensures ∙ c.if-is_digit.true in
    record {
      digits = digits_more bytes n v c.requires inv.digits (omega (arith, c.digits-test.true)) inv.small is_digit;
      small = small_more n v (slice_index bytes n) inv.small is_digit;
    }
