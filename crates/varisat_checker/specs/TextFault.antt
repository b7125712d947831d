-- Faults of a formula's text as answers of the checker.
use Rattle.std.specs.Prelude.{◌≡◌, true}
use Rattle.sat_formula.specs.declared.fault.DimacsFault.{DimacsFault}
use Rattle.sat_formula.specs.declared.fault.DimacsFault.TheVariants as faults
use Rattle.checker_rules.specs.State.{State}
use Rattle.checker_parts.specs.declared.error.CheckerError.TheVariants.{OutOfMemory}
use Rattle.checker_parts.specs.declared.error.DimacsError.{DimacsError}
use Rattle.checker_parts.specs.declared.error.DimacsError.TheVariants.{Read, Malformed, Checker}

-- the error of the fault, and the state after it: out of memory fails the checker
abbrev pub IsTextFault : DimacsFault → State → DimacsError → State → Type 0
IsTextFault (faults.Read cause) s e s' = (e ≡ Read cause) × (s' ≡ s)
IsTextFault (faults.Malformed line kind) s e s' = (e ≡ Malformed line kind) × (s' ≡ s)
IsTextFault faults.OutOfMemory s e s' = (e ≡ Checker OutOfMemory) × (s'.failed ≡ true)
