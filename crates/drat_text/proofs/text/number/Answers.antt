use Rattle.std.proofs.Common.{refl}
use Rattle.drat_text.specs.Taking.{source_of}
use Rattle.drat_text.specs.declared.bytes.Format.TheVariants.{Text}
use Rattle.drat_text.specs.Places.{InNumber, Sign, first_digit}
use Rattle.drat_text.proofs.NumberLemmas.{digit_first, number_on, sign_first}
use Rattle.drat_text.proofs.Takings.{leads_nil, leads_as, error_is, cut_short, byte_on}
use Rattle.drat_text.proofs.text.number.Goals as goal

pub returns-in_err-digit-clause-read : goal.returns-in_err-digit-clause-read
returns-in_err-digit-clause-read g c = λ slot.
    rw (error_is _ _ c.from_residual.ensures.1)
    (cut_short g.G.Grammar.rules Text _ (InNumber slot Sign) (source_of c.next_within.new.self) _ refl
    (leads_as (leads_nil _ _) (sign_first g.G.Grammar.rules slot c.args.first c.if-first-eq45.true)) c.in_err-digit.ensures.byte)

pub returns-then-first-eq45-clause-read : goal.returns-then-first-eq45-clause-read
returns-then-first-eq45-clause-read g c = λ slot.
    number_on g.G.Grammar.rules _ (source_of c.digits.new.bytes) slot _
    (byte_on g.G.Grammar.rules Text (InNumber slot Sign) c.in_ok-digit.digit {d = first_digit slot _ c.in_ok-digit.digit}
    (leads_as (leads_nil _ _) (sign_first g.G.Grammar.rules slot c.args.first c.if-first-eq45.true)) c.in_ok-digit.ensures.byte refl)
    (c.digits.ensures.read slot)

pub returns-clause-read : goal.returns-clause-read
returns-clause-read g c = λ slot.
    number_on g.G.Grammar.rules _ (source_of c.digits-2.new.bytes) slot _
    (leads_as (leads_nil _ _) (digit_first g.G.Grammar.rules slot c.args.first c.requires c.if-first-eq45.false))
    (c.digits-2.ensures.read slot)
