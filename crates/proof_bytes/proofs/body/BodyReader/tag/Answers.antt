use Rattle.std.proofs.Common.{ℕ, rules}
use Rattle.proof_bytes.specs.declared.format.Format.{Format}
use Rattle.proof_bytes.proofs.Leading.{exits_by}
use Rattle.proof_bytes.proofs.Tags.{later_tag, no_later_tag}
use Rattle.proof_bytes.proofs.body.BodyReader.tag.Goals as goal

abbrev whole : Format × ℕ → Format × ℕ
whole tag = tag

pub returns-in-Start-clause-read : goal.returns-in-Start-clause-read
returns-in-Start-clause-read g c = rw c.in-Start.is c.first_tag.ensures.read

pub returns-in_err-tag-in_default : goal.returns-in_err-tag-in_default
returns-in_err-tag-in_default g c = record {
  read = exits_by whole _ c.from_residual.ensures.1 (no_later_tag _ c.in_default.not-Start) c.in_err-tag-in_default.ensures;
  in_force = search rules;
}

pub returns-in_ok-tag-in_default : goal.returns-in_ok-tag-in_default
returns-in_ok-tag-in_default g c = record {
  read = later_tag _ _ c.in_default.not-Start c.in_ok-tag-in_default.ensures;
  in_force = search rules;
}
