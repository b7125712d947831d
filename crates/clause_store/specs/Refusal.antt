-- Why a step is not taken where the store rejects.
use Rattle.std.specs.Prelude.{Bool, if◌then◌else◌}
use Rattle.checker_parts.specs.declared.error.CheckCause.TheVariants as causes
use Rattle.checker_parts.specs.declared.error.StepFault.{StepFault}
use Rattle.checker_parts.specs.declared.error.StepFault.TheVariants.{Refused, OutOfMemory}
use Rattle.clause_store.specs.declared.clauses.delete.DeleteFault.{DeleteFault}
use Rattle.clause_store.specs.declared.clauses.delete.DeleteFault.TheVariants as deletion
use Rattle.clause_store.specs.declared.clauses.store.StoreFault.{StoreFault}
use Rattle.clause_store.specs.declared.clauses.store.StoreFault.TheVariants as storing

-- where a clause is not stored
abbrev pub store_fault : StoreFault → StepFault
store_fault storing.OutOfMemory = OutOfMemory
store_fault storing.IdsExhausted = Refused causes.IdsExhausted
store_fault storing.CountExhausted = Refused causes.CountExhausted

-- where a copy of this kind is not deleted
abbrev pub delete_fault : DeleteFault → Bool → StepFault
delete_fault deletion.OutOfMemory redundant = OutOfMemory
delete_fault deletion.UnitOrEmpty redundant = Refused causes.DeleteUnitOrEmpty
delete_fault deletion.Unknown redundant = Refused causes.DeleteUnknown
delete_fault deletion.NoCopy redundant =
    Refused (if redundant then causes.DeleteRedundantIsIrredundant
    else causes.DeleteIrredundantIsRedundant)
