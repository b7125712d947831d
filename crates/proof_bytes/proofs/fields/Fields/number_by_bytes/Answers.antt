use Rattle.std.proofs.Common.{rules, arith, refl, ◌-◌, ◌+◌}
use Rattle.proof_bytes.specs.Reading.{number_at}
use Rattle.proof_bytes.proofs.Leading.{exits_by, leads_nil, malformed, no_byte, then_byte, wrong}
use Rattle.proof_bytes.proofs.Fronts.{alone, begins, ends, goes_on, more_short, no_tenth, tenth, zero_group}
use Rattle.proof_bytes.proofs.Numbers.{below_top, fits, next_weight}
use Rattle.proof_bytes.proofs.fields.Fields.number_by_bytes.Goals as goal

pub returns-in_err-first : goal.returns-in_err-first
unfolding number_at
returns-in_err-first g c = exits_by _ _ c.from_residual.ensures.1 (no_byte (leads_nil _ number_at) refl) c.in_err-first.ensures

pub returns-then-first-lt128 : goal.returns-then-first-lt128
unfolding number_at
returns-then-first-lt128 g c = then_byte (leads_nil _ number_at) refl _ c.in_ok-first.ensures (λ more. alone _ more c.if-first-lt128.true)

pub groups-init : goal.groups-init
unfolding number_at
groups-init g c = record { weight = search rules; bounded = λ lt. omega arith; small = omega arith; leads = then_byte (leads_nil _ number_at) refl _ c.in_ok-first.ensures (λ more. begins _ more c.if-first-lt128.false) }

pub returns-in_err-byte : goal.returns-in_err-byte
returns-in_err-byte g c = exits_by _ _ c.from_residual-in_err-byte.ensures.1 (no_byte c.groups.invariant.leads (more_short _ _ _)) c.in_err-byte.ensures

pub returns-then-byte-eq0 : goal.returns-then-byte-eq0
returns-then-byte-eq0 g c = malformed (wrong _ (then_byte c.groups.invariant.leads (more_short _ _ _) _ c.in_ok-byte.ensures
    (λ more. zero_group _ more (7 - c.groups.counter) _ _ _ (omega arith) c.if-byte-eq0.true)))

pub returns-then-byte-lt128 : goal.returns-then-byte-lt128
returns-then-byte-lt128 g c = then_byte c.groups.invariant.leads (more_short _ _ _) _ c.in_ok-byte.ensures
    (λ more. ends _ more (7 - c.groups.counter) _ _ _ (omega arith) c.if-byte-eq0.false c.if-byte-lt128.true)

pub groups-preserved : goal.groups-preserved
groups-preserved g c =
    let f = fits _ _ _ (c.in_ok-byte.byte - 128) c.groups-test.true c.groups.invariant.weight c.groups.invariant.small (omega arith) in
    record {
      weight = next_weight _ _ c.groups.invariant.weight;
      bounded = λ lt. below_top _ _ lt (next_weight _ _ c.groups.invariant.weight);
      small = f.sum;
      leads = then_byte c.groups.invariant.leads (more_short _ _ _) _ c.in_ok-byte.ensures (λ more. goes_on _ more (8 - (c.groups.counter + 1)) _ _ _ (omega arith) c.if-byte-lt128.false);
    }

pub returns-in_err-last : goal.returns-in_err-last
returns-in_err-last g c = exits_by _ _ c.from_residual-in_err-last.ensures.1 (no_byte c.groups.invariant.leads (more_short _ _ _)) c.in_err-last.ensures

pub returns-then-last-ne1 : goal.returns-then-last-ne1
returns-then-last-ne1 g c = malformed (wrong _ (then_byte c.groups.invariant.leads (more_short _ _ _) _ c.in_ok-last.ensures (λ more. no_tenth _ more _ _ _ (omega arith) c.if-last-ne1.true)))

pub returns : goal.returns
returns g c = then_byte c.groups.invariant.leads (more_short _ _ _) _ c.in_ok-last.ensures (λ more. tenth _ more _ _ _ (omega arith) c.if-last-ne1.false)
