-- The rejections of the code as those of the definitions.
use Rattle.checker_rules.specs.Outcome as rules
use Rattle.checker_rules.specs.Outcome.{Cause}
use Rattle.checker_parts.specs.declared.error.CheckCause.{CheckCause}
use Rattle.checker_parts.specs.declared.error.CheckCause.TheVariants.{NotSampling, Tautology, NoClauseForHash, AtCheckFailed, DeleteUnitOrEmpty, DeleteUnknown, DeleteRedundantIsIrredundant}
use Rattle.checker_parts.specs.declared.error.CheckCause.TheVariants.{DeleteIrredundantIsRedundant, NotSatisfied, NotSubsumed, DeletedVarNamed, DeletedVarHasClauses, SampleHidden, UserNameTaken}
use Rattle.checker_parts.specs.declared.error.CheckCause.TheVariants.{StillHidden, NameInUse, NoNameToRemove, ModelAgainstUnit, ModelAgainstItself, ModelMissesAssumption, ModelMissesClause}
use Rattle.checker_parts.specs.declared.error.CheckCause.TheVariants.{NotAssumed, UnknownVar, HashBits, CoreVarHidden, ModelAfterUnsat, IdsExhausted, CountExhausted, StepsExhausted}

-- the cause of the definitions
abbrev pub cause_of : CheckCause → Cause
cause_of NotSampling = rules.not_sampling
cause_of Tautology = rules.tautology
cause_of NoClauseForHash = rules.no_clause_for_hash
cause_of AtCheckFailed = rules.at_check_failed
cause_of DeleteUnitOrEmpty = rules.delete_unit_or_empty
cause_of DeleteUnknown = rules.delete_unknown
cause_of DeleteRedundantIsIrredundant = rules.delete_redundant_is_irredundant
cause_of DeleteIrredundantIsRedundant = rules.delete_irredundant_is_redundant
cause_of NotSatisfied = rules.not_satisfied
cause_of NotSubsumed = rules.not_subsumed
cause_of DeletedVarNamed = rules.deleted_var_named
cause_of DeletedVarHasClauses = rules.deleted_var_has_clauses
cause_of SampleHidden = rules.sample_hidden
cause_of UserNameTaken = rules.user_name_taken
cause_of StillHidden = rules.still_hidden
cause_of NameInUse = rules.name_in_use
cause_of NoNameToRemove = rules.no_name_to_remove
cause_of ModelAgainstUnit = rules.model_against_unit
cause_of ModelAgainstItself = rules.model_against_itself
cause_of ModelMissesAssumption = rules.model_misses_assumption
cause_of ModelMissesClause = rules.model_misses_clause
cause_of NotAssumed = rules.not_assumed
cause_of UnknownVar = rules.unknown_var
cause_of HashBits = rules.hash_bits
cause_of CoreVarHidden = rules.core_var_hidden
cause_of ModelAfterUnsat = rules.model_after_unsat
cause_of IdsExhausted = rules.ids_exhausted
cause_of CountExhausted = rules.count_exhausted
cause_of StepsExhausted = rules.steps_exhausted
