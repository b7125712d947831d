-- Why steps are not read.
--     DratFault      why a reader of steps gave up
--     step_fault number kind      the first fault of a proof
use Rattle.std.specs.Prelude.{ℕ}
use Rattle.sat_formula.specs.declared.read_fault.ReadFault.{ReadFault}
use Rattle.sat_formula.specs.declared.read_fault.ReadFault.TheVariants as faults
use Rattle.drat_text.specs.declared.fault.DratKind.{DratKind}
use Rattle.drat_text.specs.declared.fault.StepNumber.{StepNumber}

-- why a reader of steps gave up
abbrev pub DratFault : Type 0
DratFault = ReadFault StepNumber DratKind

-- the fault of this kind in the step of this number
abbrev pub step_fault : ℕ → DratKind → DratFault
step_fault number kind = faults.Wrong (record { 0 = number }) kind
