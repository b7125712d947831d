-- The fault of a formula's text as that of a run.
use Rattle.std.proofs.Common.{ℕ, List, Option, Err, refl}
use Rattle.sat_formula.specs.declared.fault.DimacsFault.{DimacsFault}
use Rattle.sat_formula.specs.declared.fault.DimacsFault.TheVariants as faults
use Rattle.sat_formula.specs.Whole.{FailsAfter}
use Rattle.checker_parts.specs.TextErrors.{of_text}
use Rattle.varisat_checker.specs.TextRun.{outcome_of}
use Rattle.varisat_check.specs.ReadFormula.{ReadsFormula}
use Rattle.varisat_check.specs.declared.fault.RunFault.TheVariants.{Formula}

pub read-fault : (known : Option (List ℕ)) (fault : DimacsFault) (clauses : List (List ℕ)) → FailsAfter (outcome_of known) clauses fault → ReadsFormula known (Err (Formula (of_text fault)))
read-fault known (faults.Read cause) clauses h = (clauses, h)
read-fault known (faults.Malformed line kind) clauses h = (clauses, h)
read-fault known faults.OutOfMemory clauses h = (refl, (clauses, h))
