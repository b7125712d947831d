-- The step that deletes a clause, part by part.
use Rattle.std.proofs.Common.{◌≡◌, ℕ, ◌-◌, Bool, true, false, cond, not, List, [], Option, None, Some, Ok, Err, is_some, sym, ap, ◌∙◌, subst, arith}
use Rattle.checker_steps.proofs.Common.{list_all, common_steps, is_tautology, canonical}
use Rattle.checker_steps.proofs.Common.{Emits, EmitsRefused, emits_deletion, emits_lowered, previous_id}
use Rattle.checker_steps.proofs.Common.{refuse, tautology, State, Justification, Step, by_redundant, by_satisfied}
use Rattle.checker_steps.proofs.Common.{by_simplified, delete_clause, step, are_apart, step-delete_clause}
use Rattle.checker_steps.proofs.Common.{AnswersOutcome, UnlessStopped, delete_fault, is_whole, answers-refuse, Listeners, Listens, ListensImage}
use Rattle.checker_steps.proofs.Common.{DeliveredList}
use Rattle.checker_rules.specs.DeleteClause.{delete_justified, forget, justified}
use Rattle.clause_store.specs.declared.clauses.DeleteClauseResult.{DeleteClauseResult}
use Rattle.clause_store.specs.declared.clauses.delete.DeleteFault.{DeleteFault}
use Rattle.clause_store.specs.declared.clauses.delete.DeleteFault.TheVariants.{OutOfMemory, UnitOrEmpty, Unknown, NoCopy}
use Rattle.clause_store.specs.Delete.{AnswersDelete, Deletes, UnlessOutOfMemory}
use Rattle.clause_store.proofs.DeleteLemmas.{is_stored-lowered}
use Rattle.checker_steps.specs.DeletionSteps.{deletion_steps}
use Rattle.checker_steps.specs.Justified.{AnswersJustified, implying_id, of_redundant}
use Rattle.checker_steps.proofs.EmissionLemmas.{quiet-refusal}

-- a tautology is rejected
pub delete-tautology : (s : State) (j : Justification) (ls : List ℕ) → is_tautology (canonical ls) ≡ true → step s (delete_clause j ls) ≡ refuse tautology s
delete-tautology s j ls h = step-delete_clause s j ls ∙ ap (λ b. cond b (refuse tautology s) (justified j (canonical ls) s)) h

-- else the justification is asked
pub delete-asked : (s : State) (j : Justification) (ls c : List ℕ) → is_tautology (canonical ls) ≡ false → c ≡ canonical ls → step s (delete_clause j ls) ≡ justified j c s
delete-asked s j ls c h same =
    step-delete_clause s j ls ∙ ap (λ b. cond b (refuse tautology s) (justified j (canonical ls) s)) h ∙ ap (λ x. justified j x s) (sym same)

-- what is deleted where the justification passes
pub delete-justified : (s : State) (j : Justification) (ls c : List ℕ) (id : Option ℕ) (r : Bool) → is_tautology (canonical ls) ≡ false →
    c ≡ canonical ls → AnswersJustified (Ok id) j c s → is_some id ≡ not r
    → (step s (delete_clause j ls) ≡ delete_justified r c (forget s)) × (of_redundant j ≡ r)
delete-justified s j ls c id r apart same a some = grind (arith, delete-asked)

-- a copy that was not deleted
pub answers-fault : (r : Bool) (c : List ℕ) (s t : State) (f : DeleteFault) → AnswersDelete (Err f) c r s t →
    AnswersOutcome {A = Unit {0}} (Err (delete_fault f r)) (delete_justified r c s) t
answers-fault r c s t f a = grind (arith, answers-refuse)

-- what holds unless memory was refused holds unless the step gave up
pub unless-fault : (P : Type 0) (f : DeleteFault) (r : Bool) → UnlessOutOfMemory {A = ℕ × DeleteClauseResult} (Err f) P →
    UnlessStopped {A = Unit {0}} (Err (delete_fault f r)) P
unless-fault P f r p = grind arith

-- what the deletion delivers on is what the rules emit
module _ (c : List ℕ) (s : State) (apart : are_apart s.clauses ≡ true) (whole : list_all is_whole s.clauses ≡ true) where
  emits-redundant : (id : ℕ) (t : State) (did : DeleteClauseResult) → Deletes c true (forget s) t id did → deletion_steps s.known None did id c ≡ emits_deletion s by_redundant c
  emits-redundant id t did d = grind (arith, is_stored-lowered)

  emits-irredundant : (id n : ℕ) (t : State) (did : DeleteClauseResult) → Deletes c false (forget s) t id did → deletion_steps s.known (Some n) did id c ≡ emits_lowered s c n
  emits-irredundant id n t did d = grind (arith, common_steps, is_stored-lowered)

  emits-by : (j : Justification) (id : ℕ) (t : State) (did : DeleteClauseResult) → Deletes c (of_redundant j) (forget s) t id did →
      deletion_steps s.known (implying_id j c s) did id c ≡ emits_deletion s j c
  emits-by by_redundant id t did d = emits-redundant id t did d
  emits-by by_satisfied id t did d = emits-irredundant id _ t did d
  emits-by by_simplified id t did d = emits-irredundant id (previous_id s.previous) t did d

  pub emits-deleted : (j : Justification) (ls : List ℕ) (r : Bool) (implying : Option ℕ) (id : ℕ) (t : State) (did : DeleteClauseResult) →
      c ≡ canonical ls → implying ≡ implying_id j c s → of_redundant j ≡ r → Deletes c r (forget s) t id did →
      deletion_steps s.known implying did id c ≡ emits_deletion s j (canonical ls)
  emits-deleted j ls r implying id t did list why kind d =
      ap (λ o. deletion_steps s.known o did id c) why ∙ emits-by j id t did (subst (λ b. Deletes c b (forget s) t id did) (sym kind) d) ∙ ap (emits_deletion s j) list

-- a rejected deletion delivers nothing on
module _ {P T : Type 0} (listens : Listens P) (listens_image : ListensImage T)
    (s u : State) (t : Step) (r : Bool) (old : Listeners P T) (quiet : EmitsRefused s t []) where
  pub delivered-fault : (f : DeleteFault) → AnswersOutcome {A = Unit {0}} (Err (delete_fault f r)) (step s t) u →
      DeliveredList {A = Unit {0}} (Err (delete_fault f r)) (Emits s t) listens listens_image old old
  delivered-fault OutOfMemory a = tt
  delivered-fault UnitOrEmpty a = quiet-refusal listens listens_image s t _ old a.0 quiet
  delivered-fault Unknown a = quiet-refusal listens listens_image s t _ old a.0 quiet
  delivered-fault NoCopy a = quiet-refusal listens listens_image s t _ old a.0 quiet
