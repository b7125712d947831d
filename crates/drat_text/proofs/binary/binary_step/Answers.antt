use Rattle.std.proofs.Common.{refl}
use Rattle.drat_text.specs.Taking.{source_of}
use Rattle.drat_text.specs.declared.bytes.Format.TheVariants.{Binary}
use Rattle.drat_text.specs.Places.{Outside}
use Rattle.drat_text.proofs.NumberLemmas.{step_on}
use Rattle.drat_text.proofs.Takings.{byte_goes, byte_stops, error_is, leads_nil, no_byte}
use Rattle.drat_text.proofs.binary.binary_step.Goals as goal

pub returns-in_err-letter-clause-read : goal.returns-in_err-letter-clause-read
returns-in_err-letter-clause-read g c =
    rw (error_is _ _ c.from_residual.ensures.1)
    (no_byte g.G.Grammar.rules Binary _ Outside (source_of c.next_byte.new.self) _ (λ e. refl) (leads_nil _ _) c.in_err-letter.ensures.byte)

pub returns-then-not-begin-clause-read : goal.returns-then-not-begin-clause-read
returns-then-not-begin-clause-read g c =
    let G = g.G.Grammar in
    byte_stops G.rules Binary Outside c.in_ok-letter.letter (leads_nil _ _) c.in_ok-letter.ensures.byte
    (rw (rw c.if-not-begin.true at c.begin.ensures))

pub returns-clause-read : goal.returns-clause-read
returns-clause-read g c =
    let G = g.G.Grammar in
    step_on G.rules _ Binary (G.step_of c.codes.new.draft) (source_of c.codes.new.bytes) c.codes.result
    (byte_goes G.rules Binary Outside c.in_ok-letter.letter (leads_nil _ _) c.in_ok-letter.ensures.byte
    (rw (rw c.if-not-begin.false at c.begin.ensures)))
    c.codes.ensures.read
