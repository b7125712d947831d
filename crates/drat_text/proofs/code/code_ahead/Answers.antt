use Rattle.std.proofs.Common.{◌≡◌, ℕ, ◌+◌, ◌-◌, ◌*◌, ◌≤◌, List, Some, arith, drop, get_or, length}
use Rattle.std.specs.Prelude.{◌%◌}
use Rattle.drat_text.specs.Codes.{code_at}
use Rattle.drat_text.specs.Places.{IsLastWeight}
use Rattle.drat_text.specs.Taking.{Leads}
use Rattle.drat_text.proofs.CodeLemmas.{code_is, code_more, first_weight, group_before, next_weight, not_first, not_second, value_small, weight_small}
use Rattle.drat_text.proofs.Takings.{byte_ahead, leads_nil}
use Rattle.drat_text.proofs.code.code_ahead.Goals as goal

first_read : (bytes : List ℕ) (last : ℕ) → IsLastWeight last → 9 ≤ length bytes → 128 ≤ get_or bytes 0 0 →
    Leads (Some bytes) (Some (drop 1 bytes)) (code_at last 0 1) (code_at last (0 + (get_or bytes 0 0 % 128) * 1) 128)
first_read bytes last is long le = code_more last 0 1 (get_or bytes 0 0) (leads_nil _ _) (byte_ahead bytes 0 (omega (arith, long))) le (not_first last is)

pub returns-then-first-lt128-clause-read : goal.returns-then-first-lt128-clause-read
returns-then-first-lt128-clause-read c =
    let bytes = c.args.bytes.now in let x = get_or bytes 0 0 in
    code_is _ 0 1 x (leads_nil _ _) (byte_ahead bytes 0 (omega arith)) x c.if-first-lt128.true (omega arith)

pub returns-then-second-lt128-clause-read : goal.returns-then-second-lt128-clause-read
returns-then-second-lt128-clause-read c =
    let bytes = c.args.bytes.now in let x = get_or bytes 0 0 in let y = get_or bytes 1 0 in
    let fits = c.type_inv.bytes 0 in
    code_is _ (0 + (x % 128) * 1) 128 y (first_read bytes _ c.requires c.if-bytes-lt-LONGEST_CODE.false c.if-first-lt128.false) (byte_ahead bytes 1 (omega arith)) _ c.if-second-lt128.true (omega arith)

pub groups-init : goal.groups-init
groups-init c =
    let bytes = c.args.bytes.now in let x = get_or bytes 0 0 in let y = get_or bytes 1 0 in
    let fits = c.type_inv.bytes 0 in let fits2 = c.type_inv.bytes 1 in
    let weight = next_weight _ 128 (next_weight _ 1 (first_weight _ c.requires) (not_first _ c.requires)) (not_second _ c.requires) in
    let is : (x - 128) + (y - 128) * 128 ≡ (0 + (x % 128) * 1) + (y % 128) * 128 = omega arith in
    record {
      value = omega arith;
      weight = weight;
      small = omega arith;
      read = rw is (code_more _ (0 + (x % 128) * 1) 128 y (first_read bytes _ c.requires c.if-bytes-lt-LONGEST_CODE.false c.if-first-lt128.false) (byte_ahead bytes 1 (omega arith)) c.if-second-lt128.false (not_second _ c.requires));
    }

pub returns-then-byte-lt128-clause-read : goal.returns-then-byte-lt128-clause-read
returns-then-byte-lt128-clause-read c =
    let bytes = c.args.bytes.now in let v = c.groups.code in let w = c.groups.scale in let x = get_or bytes c.groups.before 0 in
    let e : x % 128 ≡ x = omega arith in
    code_is _ v w x c.groups.invariant.read (byte_ahead bytes c.groups.before (omega arith)) _ c.if-byte-lt128.true (rw e (grind arith))

pub groups-preserved : goal.groups-preserved
groups-preserved c =
    let bytes = c.args.bytes.now in let place = c.groups.before in let x = get_or bytes place 0 in
    let v = c.groups.code in let w = c.groups.scale in let before = c.groups.invariant in
    let next = next_weight _ w before.weight c.if-scale-last_weight.false in
    let fits = c.type_inv.bytes place in
    let is = group_before v w x c.if-byte-lt128.false (omega arith) in
    record {
      value = rw is (value_small v w x before.value);
      weight = next;
      small = weight_small _ (w * 128) c.requires next;
      read = rw is (code_more _ v w x before.read (byte_ahead bytes place (omega arith)) c.if-byte-lt128.false c.if-scale-last_weight.false);
    }
