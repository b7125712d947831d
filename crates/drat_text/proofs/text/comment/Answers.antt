use Rattle.std.proofs.Common.{rules, refl, eq-eqb}
use Rattle.std.proofs.lemmas.Bool.{ne_eqb}
use Rattle.drat_text.specs.Taking.{source_of}
use Rattle.drat_text.specs.declared.bytes.Format.TheVariants.{Text}
use Rattle.drat_text.specs.Places.{Comment}
use Rattle.drat_text.proofs.Takings.{error_is, no_byte, byte_goes}
use Rattle.drat_text.proofs.text.comment.Goals as goal

pub returns-in_err-next_byte-clause-read : goal.returns-in_err-next_byte-clause-read
returns-in_err-next_byte-clause-read g c =
    rw (error_is _ _ c.from_residual.ensures.1)
    (no_byte g.G.Grammar.rules Text _ Comment (source_of c.next_byte.new.self) _ (λ e. refl) c.bytes.invariant.read c.in_err-next_byte.ensures.byte)

pub returns-then-branch-eq10-clause-read : goal.returns-then-branch-eq10-clause-read
returns-then-branch-eq10-clause-read g c = byte_goes g.G.Grammar.rules Text Comment _ c.bytes.invariant.read c.in_ok-next_byte.ensures.byte (rw (eq-eqb _ 10 c.if-branch-eq10.true) refl)

pub bytes-preserved : goal.bytes-preserved
bytes-preserved g c = record {
  room = search rules;
  read = byte_goes g.G.Grammar.rules Text Comment _ c.bytes.invariant.read c.in_ok-next_byte.ensures.byte (rw (ne_eqb _ 10 c.if-branch-eq10.false) refl);
}
