use Rattle.std.proofs.Common.{◌-◌, arith, rules, refl}
use Rattle.drat_text.specs.Taking.{source_of}
use Rattle.drat_text.specs.declared.bytes.Format.TheVariants.{Text}
use Rattle.drat_text.specs.declared.fault.DratKind.TheVariants.{Malformed}
use Rattle.drat_text.specs.Places.{InNumber, Digits, Goes, Stops, first_digit}
use Rattle.drat_text.proofs.Takings.{byte_goes, byte_on, byte_stops, end_at, leads_nil, no_byte, on_as}
use Rattle.drat_text.specs.Taking.{by_byte}
use Rattle.drat_text.proofs.text.digits.Goals as goal

pub returns-then-not-is_digit-clause-read : goal.returns-then-not-is_digit-clause-read
returns-then-not-is_digit-clause-read g c = λ slot.
    by_byte (on_as g.G.Grammar.rules Text {d = first_digit slot c.args.negative c.args.first} {e = Stops Malformed} (leads_nil _ _) (grind arith))

pub digits-init : goal.digits-init
digits-init g c = record {
  room = search rules;
  read = λ slot. on_as g.G.Grammar.rules Text {d = first_digit slot c.args.negative c.args.first}
      {e = Goes (InNumber slot (Digits c.args.negative (c.args.first - 48)))} (leads_nil _ _) (grind arith);
}

pub digits-preserved : goal.digits-preserved
digits-preserved g c = record {
  room = search rules;
  read = λ slot. rw c.with_digit-value.ensures
      (byte_goes g.G.Grammar.rules Text (InNumber slot (Digits c.args.negative c.digits.value)) c.in-Ok.byte (c.digits.invariant.read slot) c.in-Ok.ensures.byte (grind arith));
}

pub returns-in-Ok-2-clause-read : goal.returns-in-Ok-2-clause-read
returns-in-Ok-2-clause-read g c = λ slot.
    byte_on g.G.Grammar.rules Text (InNumber slot (Digits c.args.negative c.digits.value)) c.in-Ok-2.byte {d = g.G.Grammar.rules.said slot c.args.negative c.digits.value}
    (c.digits.invariant.read slot) c.in-Ok-2.ensures.byte (grind arith)

pub returns-in-Ok-3-clause-read : goal.returns-in-Ok-3-clause-read
returns-in-Ok-3-clause-read g c = λ slot.
    byte_stops g.G.Grammar.rules Text (InNumber slot (Digits c.args.negative c.digits.value)) c.in-Ok-3.field-0 (c.digits.invariant.read slot) c.in-Ok-3.ensures.byte (grind arith)

pub returns-in-Err-End-clause-read : goal.returns-in-Err-End-clause-read
returns-in-Err-End-clause-read g c = λ slot.
    end_at g.G.Grammar.rules Text (InNumber slot (Digits c.args.negative c.digits.value))
    (c.digits.invariant.read slot) (rw c.in-Err-End.field-0-is at c.in-Err-End.ensures.byte) refl

pub returns-in-Err : goal.returns-in-Err
returns-in-Err g c = record {
  read = λ slot. no_byte g.G.Grammar.rules Text _ (InNumber slot (Digits c.args.negative c.digits.value)) (source_of c.next_byte.new.self) c.in-Err.stop
      (λ e. absurd (grind arith)) (c.digits.invariant.read slot) c.in-Err.ensures.byte;
  room = search rules;
}
