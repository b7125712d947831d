-- What callers see of a checker.
use Rattle.std.specs.Prelude.{ℕ, if◌then◌else◌, length}
use Rattle.checker_rules.specs.LiveLiterals.{live_literals}
use Rattle.checker_rules.specs.State.{State}
use Rattle.checker_steps.specs.Context.{context_state}
use Rattle.checker_steps.specs.Delivered.{Listeners, listeners_of}
use Rattle.varisat_checker.specs.declared.checker.CheckerOf.{CheckerOf}

-- the state of a checker
unfoldable pub state : {P T : Type 0} → CheckerOf P T → State
state c = context_state c.ctx

-- the processors and transcripts registered with it
unfoldable pub listeners : {P T : Type 0} → CheckerOf P T → Listeners P T
listeners c = listeners_of c.ctx.processing

-- the length of its literal buffer; 0 of one that has failed
unfoldable pub buffer_length : {P T : Type 0} → CheckerOf P T → ℕ
buffer_length c =
    if c.ctx.checker_state.failed then 0
    else length c.ctx.clauses.literal_buffer.items

-- the literals of its stored clauses that are longer than three; 0 of one that has failed
abbrev pub shown_literals : State → ℕ
shown_literals s = if s.failed then 0 else live_literals s.clauses
