-- Answers of parts that hand nothing on.
use Rattle.std.specs.Prelude.{Result, Ok, Err}
use Rattle.checker_parts.specs.declared.error.StepFault.{StepFault}
use Rattle.checker_parts.specs.declared.error.StepFault.TheVariants.{Refused, Processor, OutOfMemory}

-- no processor answered a fault
abbrev pub NoListenerFault : {A : Type 0} → Result A StepFault → Type 0
NoListenerFault (Ok done) = Unit {0}
NoListenerFault (Err (Refused cause)) = Unit {0}
NoListenerFault (Err OutOfMemory) = Unit {0}
NoListenerFault (Err Processor) = ⊥
