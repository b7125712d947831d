use Rattle.std.proofs.Common.{arith, rules, refl}
use Rattle.drat_text.specs.Taking.{source_of}
use Rattle.drat_text.specs.declared.bytes.Format.TheVariants.{Text}
use Rattle.drat_text.specs.Places.{Within}
use Rattle.drat_text.proofs.NumberLemmas.{number_on}
use Rattle.drat_text.proofs.Takings.{leads_nil, error_is, cut_short, byte_before, byte_goes}
use Rattle.drat_text.proofs.text.next_number.Goals as goal

pub blanks-init : goal.blanks-init
blanks-init g c = record { room = search rules; read = λ slot. leads_nil _ _ }

pub returns-in_err-byte-clause-read : goal.returns-in_err-byte-clause-read
returns-in_err-byte-clause-read g c = λ slot.
    rw (error_is _ _ c.from_residual.ensures.1)
    (cut_short g.G.Grammar.rules Text _ (Within slot) (source_of c.next_within.new.self) _ refl (c.blanks.invariant.read slot) c.in_err-byte.ensures.byte)

pub returns-then-not-is_space-clause-read : goal.returns-then-not-is_space-clause-read
returns-then-not-is_space-clause-read g c = λ slot.
    number_on g.G.Grammar.rules _ (source_of c.number.new.bytes) slot _
    (byte_before g.G.Grammar.rules Text (Within slot) c.in_ok-byte.byte (c.blanks.invariant.read slot) c.in_ok-byte.ensures.byte)
    (c.number.ensures.read slot)

pub blanks-preserved : goal.blanks-preserved
blanks-preserved g c = record {
  room = search rules;
  read = λ slot. byte_goes g.G.Grammar.rules Text (Within slot) c.in_ok-byte.byte (c.blanks.invariant.read slot) c.in_ok-byte.ensures.byte (grind arith);
}
