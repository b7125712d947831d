-- Why a clause, a lemma or an answer is rejected. Each is accepted exactly where there is no cause.
--     Refusal      the causes
--     id_cause f i, lemma_cause f i c ids      of a clause under an id;  of a lemma along hints
--     core_cause f assumed k ids      of a core along hints
--     model_cause cs assumed m      of a model of the clauses
--     CausesAreExact      there is none exactly where the rules accept
use Rattle.std.specs.Prelude.{◌≡◌, ◌↔◌, ℕ, suc, Bool, true, ◌&&◌, if◌then◌else◌, List, [], ◌∷◌, Option, Some, None, is_some, is_none}
use Rattle.std.specs.List.{list_any}
use Rattle.sat_rules.specs.Clauses.{is_tautology}
use Rattle.sat_rules.specs.Named.{negated_set}
use Rattle.lrat_rules.specs.Causes.{Cause, id_taken, no_conflict}
use Rattle.lrat_rules.specs.Propagation.{Ending, conflict, open_at, propagate, stuck}
use Rattle.refutation_rules.specs.Sessions.{all_in}
use Rattle.session_checker.specs.Rules.{follows, is_core, is_model, listed}

-- as a line of LRAT is rejected;  a literal of the core was not assumed;  the model has both signs of a variable;  it lacks an assumption;  it meets no literal of the clause of this number, from 1 on
pub data Refusal : Type 0 where
  by_line : Cause → Refusal
  not_assumed both_signs misses_assumption : Refusal
  misses_clause : ℕ → Refusal

-- the hints end without a conflict, or one of them is no good
abbrev pub hints_cause : Ending → Option Refusal
hints_cause conflict = None
hints_cause (open_at s) = Some (by_line no_conflict)
hints_cause (stuck k) = Some (by_line k)

-- the id names a clause
abbrev pub id_cause : (ℕ → Option (List ℕ)) → ℕ → Option Refusal
id_cause f i = if is_some (f i) then Some (by_line id_taken) else None

-- first the id, then the hints, with all literals of the lemma false
abbrev pub lemma_cause : (ℕ → Option (List ℕ)) → ℕ → List ℕ → List ℕ → Option Refusal
lemma_cause f i c ids = if is_some (f i) then Some (by_line id_taken)
    else hints_cause (propagate f (negated_set c) ids)

-- first what was assumed, then the hints, with all literals of the core true
abbrev pub core_cause : (ℕ → Option (List ℕ)) → List ℕ → List ℕ → List ℕ → Option Refusal
core_cause f assumed k ids = if all_in k assumed
    then (if is_tautology k then None else hints_cause (propagate f (listed k) ids))
    else Some not_assumed

-- the first clause without a literal of the set, where the first of all has number n
abbrev pub clause_cause : ℕ → (ℕ → Bool) → List (List ℕ) → Option Refusal
clause_cause n s [] = None
clause_cause n s (c ∷ cs) = if list_any s c then clause_cause (suc n) s cs
    else Some (misses_clause n)

-- first the signs, then the assumptions, then the clauses in their order
abbrev pub model_cause : List (List ℕ) → List ℕ → List ℕ → Option Refusal
model_cause cs assumed m = if is_tautology m then Some both_signs
    else (if all_in assumed m then clause_cause 1 (listed m) cs else Some misses_assumption)

-- there is no cause exactly where the rules accept
pub record CausesAreExact : Type 0 where
  pub lemma : (f : ℕ → Option (List ℕ)) (i : ℕ) (c ids : List ℕ) →
      (lemma_cause f i c ids ≡ None) ↔ ((is_none (f i) && follows f c ids) ≡ true)
  pub core : (f : ℕ → Option (List ℕ)) (assumed k ids : List ℕ) →
      (core_cause f assumed k ids ≡ None) ↔ ((all_in k assumed && is_core f k ids) ≡ true)
  pub model : (cs : List (List ℕ)) (assumed m : List ℕ) →
      (model_cause cs assumed m ≡ None) ↔ (is_model cs assumed m ≡ true)
