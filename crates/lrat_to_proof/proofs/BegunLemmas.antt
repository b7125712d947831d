-- Beginnings of the bytes of steps.
--     begun_whole, begun_before      all was written;  more steps are to follow
--     begun_one      a write that failed, of one step more
--     begun_in_all      clauses are to go
use Rattle.std.proofs.Common.{◌≡◌, ℕ, ◌+◌, List, [], ◌∷◌, ◌++◌, length, take, Option, sym, ap, ◌∙◌, append_assoc, append-nil, length-append, subst, arith}
use Rattle.std.proofs.Math.Seq.{take-append-add, take-length}
use Rattle.std.proofs.lemmas.List.{take-append-le}
use Rattle.std.specs.Io.KnownBytes.{Appends}
use Rattle.std.proofs.KnownBytes.{Appends-trans}
use Rattle.checker_rules.specs.Step.{Step, end_proof}
use Rattle.proof_bytes.specs.ProofWriter.{format_in}
use Rattle.proof_bytes.specs.Spelling.{spells}
use Rattle.proof_bytes.specs.Version2.{mark, text_2, writing, written_after}
use Rattle.proof_bytes.proofs.TextLaws.{text_grows}
use Rattle.whole_writes.specs.Beginnings.{AppendsBeginning}
use Rattle.lrat_to_proof.specs.Converting.{Converted, delete_all, delete_one, deletion, whole}
use Rattle.lrat_to_proof.specs.Standing.{HasBegun, HasWritten}
use Rattle.lrat_to_proof.specs.declared.steps.StepWriter.{StepWriter}

module _ (start now : Option (List ℕ)) where
  -- more bytes are to follow
  begun_front : (xs ys : List ℕ) → AppendsBeginning start now xs → AppendsBeginning start now (xs ++ ys)
  begun_front xs ys p = record {
    count = p.count;
    within = let le = p.within in omega (arith, le, length-append xs ys);
    appended = subst (Appends start now) (sym (take-append-le p.count xs ys p.within)) p.appended;
  }

  -- all was written
  pub begun_whole : (steps : List Step) → Appends start now (text_2 steps) → HasBegun start now steps
  begun_whole steps p = record {
    count = length (text_2 steps);
    within = omega arith;
    appended = subst (Appends start now) (sym (take-length (text_2 steps))) p;
  }

  -- more steps are to follow
  pub begun_before : (steps more : List Step) → HasBegun start now steps → HasBegun start now (steps ++ more)
  begun_before steps [] p = subst (HasBegun start now) (sym (append-nil steps)) p
  begun_before steps (s ∷ more) p =
      let next = mark (written_after steps) ++ spells (writing (written_after steps)) s in
      rw (append_assoc steps (s ∷ []) more) at
      (begun_before (steps ++ s ∷ []) more (rw (text_grows.version_2 steps s) (begun_front (text_2 steps) next p)))

  -- the end of the proof is to follow
  pub begun_to_end : (c : Converted) → HasBegun start now c.steps → HasBegun start now (whole c)
  begun_to_end c p = begun_before c.steps (end_proof ∷ []) p

  -- the steps so far come before those of clauses that are removed
  steps_before : (c : Converted) (ids : List ℕ) → (more : List Step) × ((delete_all c ids).steps ≡ c.steps ++ more)
  steps_before c [] = ([], sym (append-nil c.steps))
  steps_before c (i ∷ is) =
      let rest = steps_before (delete_one c i) is in
      let gone = deletion (c.held.entries i) in
      (gone ++ rest.0, rest.1 ∙ append_assoc c.steps gone rest.0)

  -- clauses are to go
  pub begun_in_all : (c : Converted) (ids : List ℕ) → HasBegun start now c.steps → HasBegun start now (delete_all c ids).steps
  begun_in_all c ids p = let m = steps_before c ids in rw m.1 (begun_before c.steps m.0 p)

module _ (start old new : Option (List ℕ)) (steps : List Step) where
  -- bytes, and a beginning of others
  begun_past : (xs ys : List ℕ) → Appends start old xs → AppendsBeginning old new ys → AppendsBeginning start new (xs ++ ys)
  begun_past xs ys p q = record {
    count = length xs + q.count;
    within = let le = q.within in omega (arith, le, length-append xs ys);
    appended = subst (Appends start new) (sym (take-append-add xs ys q.count)) (Appends-trans start old new xs (take q.count ys) p q.appended);
  }

  -- a write that failed, of one step more
  pub begun_one : (s : Step) (v : StepWriter) (bytes : List ℕ) → HasWritten start old steps v →
      bytes ≡ mark (format_in v.writer) ++ spells (writing (format_in v.writer)) s → AppendsBeginning old new bytes → HasBegun start new (steps ++ s ∷ [])
  begun_one s v bytes h is begun =
      subst (AppendsBeginning start new) (ap (λ b. text_2 steps ++ b) (is ∙ ap (λ f. mark f ++ spells (writing f) s) h.format) ∙ sym (text_grows.version_2 steps s))
      (begun_past (text_2 steps) bytes h.bytes begun)
