-- What the parts of a checker keep between calls.
use Rattle.std.specs.Prelude.{List}
use Rattle.checker_rules.specs.State.{Known}
use Rattle.checker_rules.specs.WellFormed.{WellFormed}
use Rattle.clause_store.specs.declared.clauses.Clauses.{Clauses}
use Rattle.clause_store.specs.declared.hash.ClauseHasher.{ClauseHasher}
use Rattle.clause_store.specs.declared.state.CheckerState.{CheckerState}
use Rattle.clause_store.specs.StateOf.{state_of}
use Rattle.clause_store.specs.Store.{IsStore}

-- the state has its form, and the store is in order; nothing is said of what the stored clauses entail
pub record PartsInvariant (st : CheckerState) (h : ClauseHasher) (cs : Clauses)
    (known : List Known) : Type 0 where
  pub form : WellFormed (state_of st h cs known)
  pub store : IsStore h cs
