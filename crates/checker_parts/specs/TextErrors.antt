-- Faults of a formula's text as errors.
use Rattle.sat_formula.specs.declared.fault.DimacsFault.{DimacsFault}
use Rattle.sat_formula.specs.declared.fault.DimacsFault.TheVariants as faults
use Rattle.checker_parts.specs.declared.error.CheckerError.TheVariants.{OutOfMemory}
use Rattle.checker_parts.specs.declared.error.DimacsError.{DimacsError}
use Rattle.checker_parts.specs.declared.error.DimacsError.TheVariants.{Read, Malformed, Checker}

-- the same cause or line, and out of memory as that of the checker
abbrev pub of_text : DimacsFault → DimacsError
of_text (faults.Read cause) = Read cause
of_text (faults.Malformed line kind) = Malformed line kind
of_text faults.OutOfMemory = Checker OutOfMemory
