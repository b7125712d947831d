use Rattle.std.proofs.Common.{rules, arith, ◌*◌}
use Rattle.drat_text.specs.Reading.{too_long}
use Rattle.drat_text.specs.Taking.{source_of}
use Rattle.drat_text.proofs.CodeLemmas.{code_cut, code_ends, code_more, code_too_long, first_weight, next_weight, value_small, weight_below}
use Rattle.drat_text.proofs.Takings.{leads_nil, error_is}
use Rattle.drat_text.proofs.code.code_by_bytes.Goals as goal

pub groups-init : goal.groups-init
groups-init g c = record {
  room = search rules;
  value = omega arith;
  weight = first_weight _ c.requires;
  below = weight_below _ 1 (first_weight _ c.requires);
  read = leads_nil _ _;
}

pub returns-in_err-byte-clause-read : goal.returns-in_err-byte-clause-read
returns-in_err-byte-clause-read g c =
    rw (error_is _ _ c.from_residual.ensures.1)
    (code_cut _ _ c.groups.value c.groups.weight (source_of c.next_within.new.self) _ c.groups.invariant.read c.in_err-byte.ensures.byte)

pub returns-then-byte-lt128-clause-read : goal.returns-then-byte-lt128-clause-read
returns-then-byte-lt128-clause-read g c =
    code_ends _ c.groups.value c.groups.weight c.in_ok-byte.byte c.groups.invariant.read c.in_ok-byte.ensures.byte c.if-byte-lt128.true

pub returns-then-weight-last_weight-clause-read : goal.returns-then-weight-last_weight-clause-read
returns-then-weight-last_weight-clause-read g c =
    too_long (code_too_long _ c.groups.value c.groups.weight c.in_ok-byte.byte c.groups.invariant.read c.in_ok-byte.ensures.byte c.if-byte-lt128.false c.if-weight-last_weight.true)

pub groups-preserved : goal.groups-preserved
groups-preserved g c =
    let x = c.in_ok-byte.byte in let v = c.groups.value in let w = c.groups.weight in let before = c.groups.invariant in
    let next = next_weight _ w before.weight c.if-weight-last_weight.false in
    record {
      room = search rules;
      value = value_small v w x before.value;
      weight = next;
      below = weight_below _ (w * 128) next;
      read = code_more _ v w x before.read c.in_ok-byte.ensures.byte c.if-byte-lt128.false c.if-weight-last_weight.false;
    }
