-- Why a text is not read whole.
use Rattle.sat_formula.specs.declared.read_fault.ReadFault.{ReadFault}
use Rattle.sat_formula.specs.declared.read_fault.ReadFault.TheVariants as faults
use Rattle.sat_formula.specs.declared.read_fault.UntakenByte.{UntakenByte}
use Rattle.sat_formula.specs.declared.read_fault.UntakenByte.TheVariants as untaken

-- the fault of a text of which a byte was not taken
abbrev pub fault_of : {P K : Type 0} → UntakenByte P K → ReadFault P K
fault_of (untaken.Wrong at kind) = faults.Wrong at kind
fault_of untaken.OutOfMemory = faults.OutOfMemory
