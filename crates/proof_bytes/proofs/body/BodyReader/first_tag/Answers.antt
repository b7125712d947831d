use Rattle.std.proofs.Common.{ℕ}
use Rattle.proof_bytes.specs.declared.format.Format.{Format}
use Rattle.proof_bytes.proofs.Leading.{exits_by, malformed}
use Rattle.proof_bytes.proofs.Tags.{first_fails, first_plain, first_zero, mark_fails, mark_wrong, third_fails, third_read}
use Rattle.proof_bytes.proofs.body.BodyReader.first_tag.Goals as goal

abbrev whole : Format × ℕ → Format × ℕ
whole tag = tag

pub returns-in_err-first-clause-read : goal.returns-in_err-first-clause-read
returns-in_err-first-clause-read g c = exits_by whole _ c.from_residual.ensures.1 (first_fails) c.in_err-first.ensures

pub returns-then-first-ne-MARK-clause-read : goal.returns-then-first-ne-MARK-clause-read
returns-then-first-ne-MARK-clause-read g c = first_plain _ c.in_ok-first.ensures c.if-first-ne-MARK.true

pub returns-in_err-second-clause-read : goal.returns-in_err-second-clause-read
returns-in_err-second-clause-read g c = exits_by whole _ c.from_residual-in_err-second.ensures.1
    (mark_fails (first_zero _ c.in_ok-first.ensures c.if-first-ne-MARK.false)) c.in_err-second.ensures

pub returns-then-second-ne-VERSION-clause-read : goal.returns-then-second-ne-VERSION-clause-read
returns-then-second-ne-VERSION-clause-read g c = malformed (mark_wrong (first_zero _ c.in_ok-first.ensures c.if-first-ne-MARK.false) _ c.in_ok-second.ensures c.if-second-ne-VERSION.true)

pub returns-in_err-tag-clause-read : goal.returns-in_err-tag-clause-read
returns-in_err-tag-clause-read g c = exits_by whole _ c.from_residual-in_err-tag.ensures.1
    (third_fails (first_zero _ c.in_ok-first.ensures c.if-first-ne-MARK.false) _ c.in_ok-second.ensures c.if-second-ne-VERSION.false) c.in_err-tag.ensures

pub returns-clause-read : goal.returns-clause-read
returns-clause-read g c = third_read (first_zero _ c.in_ok-first.ensures c.if-first-ne-MARK.false) _ c.in_ok-second.ensures _ c.if-second-ne-VERSION.false c.in_ok-tag.ensures
