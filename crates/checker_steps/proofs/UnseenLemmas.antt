-- Steps that transcripts can't distinguish, where no processor is registered.
use Rattle.std.proofs.Common.{◌≡◌, ◌==◌, ℕ, Bool, true, not, List, [], ◌∷◌, length, Result, refl, ap, ◌∙◌, subst, arith}
use Rattle.checker_steps.proofs.Common.{ne_eqb, NamedStep, image, StepFault, Listeners, Listens, ListensImage}
use Rattle.checker_steps.proofs.Common.{DeliveredStep, IsTraceFor}

module _ {P T : Type 0} (listens : Listens P) (listens_image : ListensImage T) where
  -- delivered to these boxes
  abbrev delivers : {A : Type 0} → Result A StepFault → NamedStep → List P → List T → Listeners P T → Type 0
  delivers r e ps ts new = DeliveredStep r e listens listens_image (record { processors = ps; transcripts = ts }) new

  -- with no processor, a step with the same image
  delivers-unseen : {A : Type 0} (r : Result A StepFault) (d e : NamedStep) (ts : List T) (new : Listeners P T) → image d ≡ image e →
      delivers r d [] ts new → delivers r e [] ts new
  delivers-unseen r d e ts new same h = grind (arith, same, h)

  -- a step that shows a list of ids, which only processors see
  pub delivers-seen : {A : Type 0} (r : Result A StepFault) (e : List ℕ → NamedStep) (ids told : List ℕ) (old new : Listeners P T) →
      IsTraceFor old.processors told ids → image (e told) ≡ image (e ids)
      → DeliveredStep r (e told) listens listens_image old new → DeliveredStep r (e ids) listens listens_image old new
  delivers-seen r e ids told old new seen same h = by old.processors seen h
    where
      by : (ps : List P) → IsTraceFor ps told ids → delivers r (e told) ps old.transcripts new → delivers r (e ids) ps old.transcripts new
      by [] seen h = delivers-unseen r (e told) (e ids) old.transcripts new same h
      by (p ∷ ps) seen h = subst (λ (x : List ℕ). delivers r (e x) (p ∷ ps) old.transcripts new) (seen (λ none. cc)) h

-- a list that is made only where a processor is registered
pub seen-where : {P : Type 0} (ps : List P) (empty : Bool) (told ids : List ℕ) → empty ≡ (length ps == 0) → (not empty ≡ true → told ≡ ids) → IsTraceFor ps told ids
seen-where [] empty told ids e h some = absurd (some refl)
seen-where (p ∷ ps) empty told ids e h some = h (ap not (e ∙ ne_eqb (length (p ∷ ps)) 0 (λ k. omega arith)))
