-- Why lines are not read.
--     LratTextFault      why a reader of lines gave up
--     line_fault number kind      the first fault of a text
use Rattle.std.specs.Prelude.{ℕ}
use Rattle.sat_formula.specs.declared.read_fault.LineNumber.{LineNumber}
use Rattle.sat_formula.specs.declared.read_fault.ReadFault.{ReadFault}
use Rattle.sat_formula.specs.declared.read_fault.ReadFault.TheVariants as faults
use Rattle.lrat_text.specs.declared.fault.LineKind.{LineKind}

-- why a reader of lines gave up
abbrev pub LratTextFault : Type 0
LratTextFault = ReadFault LineNumber LineKind

-- the fault of this kind in the line of this number
abbrev pub line_fault : ℕ → LineKind → LratTextFault
line_fault number kind = faults.Wrong (record { 0 = number }) kind
