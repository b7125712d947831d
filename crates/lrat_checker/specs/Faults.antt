-- Faults of lines and of texts.
--     fault_of stop      the fault of a line whose check stops
--     in_line fault n      that of a line in a text
--     of_text fault      that of a text that can't be read
use Rattle.std.specs.Prelude.{ℕ}
use Rattle.lrat_checker.specs.declared.fault.LineFault.{LineFault}
use Rattle.lrat_checker.specs.declared.fault.LineFault.TheVariants as faults
use Rattle.lrat_checker.specs.declared.fault.LratFault.{LratFault}
use Rattle.lrat_checker.specs.declared.fault.LratFault.TheVariants as texts
use Rattle.lrat_checker.specs.declared.fault.Stop.{Stop}
use Rattle.lrat_checker.specs.declared.fault.Stop.TheVariants.{OutOfMemory, Refused}
use Rattle.sat_formula.specs.declared.read_fault.ReadFault.TheVariants as reads
use Rattle.lrat_text.specs.Faults.{LratTextFault}

-- the fault of a line whose check stops
abbrev pub fault_of : Stop → LineFault
fault_of (Refused cause) = faults.Refused cause
fault_of OutOfMemory = faults.OutOfMemory

-- the fault of the line of that number in a text
abbrev pub in_line : LineFault → ℕ → LratFault
in_line (faults.Refused cause) n = texts.Refused n cause
in_line faults.OutOfMemory n = texts.OutOfMemory
in_line faults.Failed n = texts.Failed

-- the fault of a text that can't be read
abbrev pub of_text : LratTextFault → LratFault
of_text (reads.Read cause) = texts.Read cause
of_text (reads.Wrong at kind) = texts.Unread at.0 kind
of_text reads.OutOfMemory = texts.OutOfMemory
