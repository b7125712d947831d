use Rattle.std.proofs.Common.{◌∙◌, ◌++◌, ◌∷◌, [], ℕ, ap}
use Rattle.proof_bytes.specs.Spelling.{spells}
use Rattle.proof_bytes.proofs.Writing.{tagged}
use Rattle.proof_bytes.proofs.spelling.push_step.Goals as goal

pub returns-clause-ok : goal.returns-clause-ok
unfolding spells
returns-clause-ok c = tagged c.args.out.now.items _ _ _ _ _ (c.in_ok-push.ensures.items ∙ ap (λ (tag : ℕ). c.args.out.now.items ++ tag ∷ []) c.tag.ensures) c.push_fields.ensures.ok
