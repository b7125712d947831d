use Rattle.std.proofs.Common.{arith, refl, ◌≡◌, ◌∙◌, ◌+◌, ◌-◌, get_or}
use Rattle.proof_bytes.specs.Reading.{number_at}
use Rattle.proof_bytes.proofs.Numbers.{fits, next_weight}
use Rattle.proof_bytes.proofs.Fronts.{one_more, alone, begins, ends, goes_on, tenth}
use Rattle.proof_bytes.proofs.ahead.number_ahead.Goals as goal

pub returns-then-first-lt128-clause-read : goal.returns-then-first-lt128-clause-read
returns-then-first-lt128-clause-read c = λ more. one_more number_at number_at c.args.bytes.now 0 1 refl (omega arith) (λ m. refl) more ∙ alone _ more c.if-first-lt128.true

pub groups-init : goal.groups-init
groups-init c = let b = c.type_inv.bytes 0 in record {
  weight = refl;
  small = omega arith;
  read = λ more. one_more number_at number_at c.args.bytes.now 0 1 refl (omega arith) (λ m. refl) more ∙ begins _ more c.if-first-lt128.false;
}

pub returns-then-byte-lt128-clause-read : goal.returns-then-byte-lt128-clause-read
returns-then-byte-lt128-clause-read c = λ more. one_more number_at _ c.args.bytes.now (c.groups.before + 1) (c.groups.before + 2) (omega arith) (omega arith) c.groups.invariant.read more
    ∙ ends _ more (7 - c.groups.before) c.groups.value c.groups.weight (8 - c.groups.before) (omega arith) c.if-byte-eq0.false c.if-byte-lt128.true

pub groups-preserved : goal.groups-preserved
groups-preserved c =
    let b = c.type_inv.bytes (c.groups.before + 1) in
    let f = fits _ _ _ (get_or c.args.bytes.now (c.groups.before + 1) 0 - 128) c.groups-test.true c.groups.invariant.weight c.groups.invariant.small (omega arith) in
    record {
      weight = next_weight _ _ c.groups.invariant.weight;
      small = f.sum;
      read = λ more. one_more number_at _ c.args.bytes.now
          (c.groups.before + 1) (c.groups.before + 1 + 1) refl (omega arith) c.groups.invariant.read more
          ∙ goes_on _ more (8 - (c.groups.before + 1)) c.groups.value c.groups.weight (8 - c.groups.before) (omega arith) c.if-byte-lt128.false;
    }

pub returns-then-bytes-eq1-clause-read : goal.returns-then-bytes-eq1-clause-read
returns-then-bytes-eq1-clause-read c = λ more. let e : c.groups.before + 1 ≡ 9 = omega arith in
    one_more number_at _ c.args.bytes.now 9 10 refl (omega arith)
    (rw e at c.groups.invariant.read) more
    ∙ tenth _ more c.groups.value c.groups.weight (8 - c.groups.before) (omega arith) c.if-bytes-eq1.true
