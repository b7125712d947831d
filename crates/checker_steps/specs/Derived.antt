-- What becomes of a derived clause.
--     stored_in_kind redundant c s      the counters, then the clause stored
--     derived s redundant c hs      the check, then the counters, then the clause stored
--     stored_steps did names id redundant c ids      what is delivered on of a clause, by what storing it did
--     derived_steps s redundant c hs      what is delivered on of a derived clause, with the trace of its check
--     IsTraceFor processors told ids      processors can't distinguish the two lists
use Rattle.std.specs.Prelude.{◌≡◌, ℕ, Bool, not, List, [], ◌∷◌, Option, None, Some}
use Rattle.checker_rules.specs.Check.{check, ready}
use Rattle.checker_rules.specs.CheckedSteps.{NamedStep, checked_at_clause, checked_make_irredundant}
use Rattle.checker_rules.specs.Outcome.{Cause, Outcome, accept}
use Rattle.checker_rules.specs.State.{Known, State}
use Rattle.checker_rules.specs.Store.{counters, stands, store}
use Rattle.checker_rules.specs.Traced.{traced_derived}
use Rattle.clause_store.specs.declared.clauses.StoreClauseResult.{StoreClauseResult}
use Rattle.clause_store.specs.declared.clauses.StoreClauseResult.TheVariants.{New, Duplicate, NewlyIrredundant}

-- the counters, then the clause stored in its kind
abbrev pub stored_in_kind : Bool → List ℕ → State → Outcome
stored_in_kind redundant c s = counters redundant c (not (stands c s)) s
    (λ r. accept (store c redundant r))

-- the check, then the counters, then the clause stored in its kind
abbrev pub derived : State → Bool → List ℕ → List ℕ → Outcome
derived s redundant c hs = check s c hs (stored_in_kind redundant c)

-- what is delivered on of a clause that passed its check, by what storing it did
abbrev pub stored_steps : StoreClauseResult → List Known → ℕ → Bool → List ℕ → List ℕ →
    List NamedStep
stored_steps New names id redundant c ids =
    record { step = checked_at_clause id redundant c ids; names = names } ∷ []
stored_steps NewlyIrredundant names id redundant c ids =
    record { step = checked_make_irredundant id c; names = names } ∷ []
stored_steps Duplicate names id redundant c ids = []

-- the steps, or none where it is rejected
abbrev pub steps_unless : Option Cause → List NamedStep → List NamedStep
steps_unless None es = es
steps_unless (Some cause) es = []

-- what is delivered on of a derived clause, with the trace of its check
abbrev pub derived_steps : State → Bool → List ℕ → List ℕ → List NamedStep
derived_steps s redundant c hs = steps_unless (derived s redundant c hs).refused
    (traced_derived (ready s c) redundant c hs)

-- the ids are those that are delivered, if a processor is registered; transcripts see no propagations
abbrev pub IsTraceFor : {P : Type 0} → List P → List ℕ → List ℕ → Type 0
IsTraceFor processors told ids = (processors ≡ [] → ⊥) → told ≡ ids
