-- The parts of the step `DeleteVar`, where the variable is known.
--     conflict_on u conflict      the recorded conflict, where it is with the variable's unit
--     close_on x s, emits_close x s      that conflict closed, and what it emits
--     emits_dropped x s      what the variable's unit emits
use Rattle.std.specs.Prelude.{ℕ, if◌then◌else◌, nat_lt, List, [], Option, None}
use Rattle.checker_rules.specs.CheckedSteps.{NamedStep}
use Rattle.checker_rules.specs.DeleteVar.{close_conflict, is_conflict_on}
use Rattle.checker_rules.specs.Emits.{emits_closing, emits_unit}
use Rattle.checker_rules.specs.Outcome.{Outcome, accept, ids_exhausted, refuse}
use Rattle.checker_rules.specs.State.{State, StoredUnit, unit_of}
use Rattle.checker_rules.specs.Store.{id_limit}

-- the recorded conflict, where its first id is that of the unit
abbrev pub conflict_on : Option StoredUnit → Option (ℕ × ℕ) → Option (ℕ × ℕ)
conflict_on u conflict = if is_conflict_on u conflict then conflict else None

-- a conflict on the variable's unit is closed, where an id is left
abbrev pub close_on : ℕ → State → Outcome
close_on x s =
    if is_conflict_on (unit_of s.units x) s.conflict then
    (if nat_lt s.next id_limit then accept (close_conflict s) else refuse ids_exhausted s)
    else accept s

-- what that emits
abbrev pub emits_close : ℕ → State → List NamedStep
emits_close x s =
    if is_conflict_on (unit_of s.units x) s.conflict then emits_closing s s.conflict
    else []

-- what the unit of the variable emits
abbrev pub emits_dropped : ℕ → State → List NamedStep
emits_dropped x s = emits_unit s x (unit_of s.units x)
