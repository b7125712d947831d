-- Steps written one after the other.
use Rattle.std.proofs.Common.{◌≡◌, ℕ, List, [], ◌∷◌, ◌++◌, Option, sym, ap, ◌∙◌, subst}
use Rattle.std.specs.Io.KnownBytes.{Appends}
use Rattle.std.proofs.KnownBytes.{Appends-trans}
use Rattle.checker_rules.specs.Step.{Step}
use Rattle.proof_bytes.specs.Formats.{after}
use Rattle.proof_bytes.specs.ProofWriter.{format_in}
use Rattle.proof_bytes.specs.Spelling.{IsStep, spells}
use Rattle.proof_bytes.specs.Version2.{mark, text_2, writing}
use Rattle.proof_bytes.proofs.TextLaws.{text_grows}
use Rattle.lrat_to_proof.specs.Standing.{HasWritten}
use Rattle.lrat_to_proof.specs.declared.steps.StepWriter.{StepWriter}

module _ (start old new : Option (List ℕ)) (steps : List Step) where
  -- one step more
  pub written_more : (s : Step) (v w : StepWriter) (bytes : List ℕ) → HasWritten start old steps v →
      bytes ≡ mark (format_in v.writer) ++ spells (writing (format_in v.writer)) s → IsStep (writing (format_in v.writer)) s →
      format_in w.writer ≡ after s (writing (format_in v.writer)) → Appends old new bytes → HasWritten start new (steps ++ s ∷ []) w
  written_more s v w bytes h is fits format appended = record {
    bytes = subst (Appends start new) (ap (λ b. text_2 steps ++ b) (is ∙ ap (λ f. mark f ++ spells (writing f) s) h.format) ∙ sym (text_grows.version_2 steps s))
        (Appends-trans start old new (text_2 steps) bytes h.bytes appended);
    format = format ∙ ap (λ f. after s (writing f)) h.format ∙ sym (text_grows.format steps s);
    fits = text_grows.fits_2 steps s h.fits (subst (λ f. IsStep (writing f) s) h.format fits);
  }
