use Rattle.std.proofs.Common.{sym}
use Rattle.checker_rules.specs.Step.{change_hash_bits}
use Rattle.proof_bytes.proofs.Leading.{exits_by}
use Rattle.proof_bytes.proofs.Tags.{no_tag, no_fields, step_read, after_same}
use Rattle.proof_bytes.proofs.body.BodyReader.step.Goals as goal

pub returns-in_err-in_force-clause-read : goal.returns-in_err-in_force-clause-read
returns-in_err-in_force-clause-read g c = exits_by _ _ c.from_residual.ensures.1 (no_tag _) c.in_err-in_force.ensures.read

pub returns-in_err-head-clause-read : goal.returns-in_err-head-clause-read
returns-in_err-head-clause-read g c = exits_by _ _ c.from_residual-in_err-head.ensures.1 (no_fields _ _ _ c.in_ok-in_force.ensures.read) c.in_err-head.ensures

pub returns-in-ChangeHashBits-clause-read : goal.returns-in-ChangeHashBits-clause-read
returns-in-ChangeHashBits-clause-read g c =
    step_read _ _ _ c.in_ok-in_force.ensures.read (change_hash_bits c.in-ChangeHashBits.bits) _ c.with_width.ensures.set (rw c.in-ChangeHashBits.is at c.in_ok-head.ensures)

pub returns-in_default-clause-read : goal.returns-in_default-clause-read
returns-in_default-clause-read g c = step_read _ _ _ c.in_ok-in_force.ensures.read _ _ (sym (after_same _ _ _ _ _ c.in_default.not-ChangeHashBits)) c.in_ok-head.ensures
