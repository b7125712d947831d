-- The parts of a checker together.
use Rattle.checker_rules.specs.State.{State}
use Rattle.clause_store.specs.PartsInvariant.{PartsInvariant}
use Rattle.clause_store.specs.StateOf.{state_of}
use Rattle.checker_steps.specs.Delivered.{Listeners, listeners_of}
use Rattle.checker_steps.specs.declared.context.ContextOf.{ContextOf}

-- the state that the parts represent
abbrev pub context_state : {P T : Type 0} → ContextOf P T → State
context_state c = state_of c.checker_state c.clause_hasher c.clauses c.variables

-- what the parts keep between calls
abbrev pub ContextInvariant : {P T : Type 0} → ContextOf P T → Type 0
ContextInvariant c = PartsInvariant c.checker_state c.clause_hasher c.clauses c.variables

-- the processors and transcripts that are registered
abbrev pub listeners_in : {P T : Type 0} → ContextOf P T → Listeners P T
listeners_in c = listeners_of c.processing
