-- Faults of a proof's text as errors.
use Rattle.std.specs.Prelude.{◌≡◌, ℕ}
use Rattle.proof_bytes.specs.declared.fault.ProofFault.{ProofFault}
use Rattle.proof_bytes.specs.declared.fault.ProofFault.TheVariants as faults
use Rattle.checker_parts.specs.declared.error.CheckerError.{CheckerError}
use Rattle.checker_parts.specs.declared.error.CheckerError.TheVariants.{ProofIncomplete, IoError, ParseError, OutOfMemory}

-- the error of the fault, met at this step
abbrev pub IsReadFault : ℕ → ProofFault → CheckerError → Type 0
IsReadFault n faults.End e = e ≡ ProofIncomplete n
IsReadFault n (faults.Read cause) e = e ≡ IoError n cause
IsReadFault n (faults.Malformed kind) e = e ≡ ParseError n kind
IsReadFault n faults.OutOfMemory e = e ≡ OutOfMemory
