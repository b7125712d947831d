-- A formula's text, read whole.
--     ReadsFormula known r      the answer of reading a text of these bytes
use Rattle.std.specs.Prelude.{◌≡◌, ℕ, List, Option, Result, Ok, Err}
use Rattle.sat_formula.specs.Outcome.{Ended, Faulty}
use Rattle.sat_formula.specs.Whole.{BeginsWith, IsOutcome}
use Rattle.checker_parts.specs.declared.error.CheckerError.TheVariants.{OutOfMemory}
use Rattle.checker_parts.specs.declared.error.DimacsError.TheVariants.{Read, Malformed, Checker}
use Rattle.varisat_checker.specs.TextRun.{outcome_of}
use Rattle.varisat_check.specs.declared.fault.RunFault.{RunFault}
use Rattle.varisat_check.specs.declared.fault.RunFault.TheVariants.{Formula, Proof, Write}

-- all clauses of the text, which has no fault; or the fault of the text, after some clauses;
-- a read fails and memory ran out after some clauses too, and no other fault is answered
abbrev pub ReadsFormula : Option (List ℕ) → Result (List (List ℕ)) RunFault → Type 0
ReadsFormula known (Ok formula) = IsOutcome (outcome_of known) (formula, Ended)
ReadsFormula known (Err (Formula (Malformed line kind))) = (clauses : List (List ℕ))
    × IsOutcome (outcome_of known) (clauses, Faulty line kind)
ReadsFormula known (Err (Formula (Read cause))) = (clauses : List (List ℕ))
    × BeginsWith (outcome_of known) clauses
ReadsFormula known (Err (Formula (Checker e))) = (e ≡ OutOfMemory)
    × ((clauses : List (List ℕ)) × BeginsWith (outcome_of known) clauses)
ReadsFormula known (Err (Proof e)) = ⊥
ReadsFormula known (Err (Write cause)) = ⊥
