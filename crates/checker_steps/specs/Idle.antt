-- Steps that take no memory.
use Rattle.std.specs.Prelude.{Bool, true, false}
use Rattle.checker_rules.specs.Step.{Step, add_clause, end_proof}

-- whether the step stores nothing: `End`, and an input clause where `unsat` is recorded
abbrev pub wants_no_memory : (unsat : Bool) → Step → Bool
wants_no_memory unsat end_proof = true
wants_no_memory unsat (add_clause c) = unsat
wants_no_memory unsat _ = false
