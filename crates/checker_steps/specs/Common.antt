-- What most contracts of this crate cite of the definitions of its parts, passed on from one place. Declares nothing.
pub use Rattle.checker_rules.specs.Emits.{Emits}
pub use Rattle.checker_rules.specs.Steps.{step}
pub use Rattle.checker_parts.specs.Faults.{AnswersOutcome, UnlessStopped}
pub use Rattle.clause_store.specs.StateOf.{state_of}
pub use Rattle.clause_store.specs.Store.{IsStore}
pub use Rattle.clause_store.specs.declared.clauses.Clauses.{Clauses}
pub use Rattle.clause_store.specs.declared.hash.ClauseHasher.{ClauseHasher}
pub use Rattle.clause_store.specs.declared.state.CheckerState.{CheckerState}
pub use Rattle.checker_steps.specs.Context.{ContextInvariant, context_state, listeners_in}
pub use Rattle.checker_steps.specs.Delivered.{DeliveredAll, DeliveredList, listeners_of}
