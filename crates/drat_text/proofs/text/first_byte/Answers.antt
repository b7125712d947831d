use Rattle.std.proofs.Common.{arith, rules, refl}
use Rattle.drat_text.specs.declared.bytes.Format.TheVariants.{Text}
use Rattle.drat_text.specs.Places.{Comment, Outside}
use Rattle.drat_text.specs.Taking.{source_of}
use Rattle.drat_text.proofs.Takings.{leads_on, error_is, no_byte, stopped_on, byte_before, byte_goes}
use Rattle.drat_text.proofs.text.first_byte.Goals as goal

pub returns-in_err-byte-clause-read : goal.returns-in_err-byte-clause-read
returns-in_err-byte-clause-read g c =
    rw (error_is _ _ c.from_residual.ensures.1)
    (no_byte g.G.Grammar.rules Text _ Outside (source_of c.next_byte.new.self) _ (λ e. refl) c.bytes.invariant.read c.in_err-byte.ensures.byte)

pub bytes-preserved-in-Continue-branch-2 : goal.bytes-preserved-in-Continue-branch-2
bytes-preserved-in-Continue-branch-2 g c = record {
  room = search rules;
  read = leads_on (byte_goes g.G.Grammar.rules Text Outside {q = Comment} c.in_ok-byte.byte c.bytes.invariant.read c.in_ok-byte.ensures.byte (grind arith)) c.in_ok-comment.ensures.read;
}

pub returns-in_err-comment-clause-read : goal.returns-in_err-comment-clause-read
returns-in_err-comment-clause-read g c =
    rw (error_is _ _ c.from_residual-in_err-comment.ensures.1)
    (stopped_on g.G.Grammar.rules Text _ (source_of c.comment.new.bytes) _
    (byte_goes g.G.Grammar.rules Text Outside {q = Comment} c.in_ok-byte.byte c.bytes.invariant.read c.in_ok-byte.ensures.byte (grind arith)) c.in_err-comment.ensures.read)

pub returns-then-not-is_space-clause-read : goal.returns-then-not-is_space-clause-read
returns-then-not-is_space-clause-read g c = byte_before g.G.Grammar.rules Text Outside c.in_ok-byte.byte c.bytes.invariant.read c.in_ok-byte.ensures.byte

pub bytes-preserved : goal.bytes-preserved
bytes-preserved g c = record {
  room = search rules;
  read = byte_goes g.G.Grammar.rules Text Outside c.in_ok-byte.byte c.bytes.invariant.read c.in_ok-byte.ensures.byte (grind arith);
}
