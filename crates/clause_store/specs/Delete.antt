-- What deleting a copy of a clause answers.
use Rattle.std.specs.Prelude.{◌≡◌, ℕ, ◌-◌, ◌&&◌, Bool, true, false, if◌then◌else◌, not, ◌==◌, List, Result, Ok, Err}
use Rattle.checker_rules.specs.DeleteClause.{delete_justified}
use Rattle.checker_rules.specs.Outcome.{accept, delete_irredundant_is_redundant, delete_redundant_is_irredundant, delete_unit_or_empty, delete_unknown, refuse}
use Rattle.checker_rules.specs.State.{State}
use Rattle.checker_rules.specs.Store.{count_of, id_among}
use Rattle.clause_store.specs.declared.clauses.DeleteClauseResult.{DeleteClauseResult}
use Rattle.clause_store.specs.declared.clauses.DeleteClauseResult.TheVariants.{Unchanged, NewlyRedundant, Removed}
use Rattle.clause_store.specs.declared.clauses.delete.DeleteFault.{DeleteFault}
use Rattle.clause_store.specs.declared.clauses.delete.DeleteFault.TheVariants.{OutOfMemory, UnitOrEmpty, Unknown, NoCopy}

-- what the deletion of a copy did to a clause of which this many copies are left
abbrev pub deleted_as : Bool → ℕ → ℕ → DeleteClauseResult
deleted_as redundant irredundants redundants =
    if irredundants == 0 && redundants == 0 then Removed
    else if not redundant && irredundants == 0 then NewlyRedundant
    else Unchanged

-- a copy is deleted, which leads from s to t, with the answers
pub record Deletes (c : List ℕ) (redundant : Bool) (s t : State) (id : ℕ)
    (result : DeleteClauseResult) : Type 0 where
  pub after : delete_justified redundant c s ≡ accept t
  pub id_is : id ≡ id_among c s.clauses
  pub result_is : result ≡ deleted_as redundant
      (count_of false c s.clauses - (if redundant then 0 else 1))
      (count_of true c s.clauses - (if redundant then 1 else 0))

-- what an attempt to delete a copy answers; nothing is said where memory was refused
abbrev pub AnswersDelete : Result (ℕ × DeleteClauseResult) DeleteFault → List ℕ → Bool → State →
    State → Type 0
AnswersDelete (Ok p) c redundant s t = Deletes c redundant s t p.0 p.1
AnswersDelete (Err OutOfMemory) c redundant s t = Unit {0}
AnswersDelete (Err UnitOrEmpty) c redundant s t =
    (delete_justified redundant c s ≡ refuse delete_unit_or_empty s) × (t ≡ s)
AnswersDelete (Err Unknown) c redundant s t =
    (delete_justified redundant c s ≡ refuse delete_unknown s) × (t ≡ s)
AnswersDelete (Err NoCopy) c redundant s t =
    (delete_justified redundant c s ≡ refuse (if redundant then delete_redundant_is_irredundant
    else delete_irredundant_is_redundant) s) × (t ≡ s)

-- the fact holds unless memory was refused
abbrev pub UnlessOutOfMemory : {A : Type 0} → Result A DeleteFault → Type 0 → Type 0
UnlessOutOfMemory (Ok x) P = P
UnlessOutOfMemory (Err OutOfMemory) P = Unit {0}
UnlessOutOfMemory (Err UnitOrEmpty) P = P
UnlessOutOfMemory (Err Unknown) P = P
UnlessOutOfMemory (Err NoCopy) P = P
