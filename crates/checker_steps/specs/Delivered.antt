-- What the registered listeners took of the steps that a call delivers on, for any type of box.
--     Listens P, ListensImage T      what a type of processors and a type of transcripts say of their values: the ghost members of the trait
--     Listeners P T, listeners_of p      the listeners in order of registration; those of the processing
--     DeliveredStep r e .. old new      one step: every box took it, or one answered a fault at it
--     DeliveredAll r es .. old new      several steps: every box took all of them, or one answered a fault
--     DeliveredList r E .. old new      a whole step of a proof, with a list of E
--     DeliveredEnd end E .. old new, Delivered r E .. old new      a whole call, by its end and by its answer: the listeners ran over a list of E, or over a beginning of one up to a fault
use Rattle.std.specs.Prelude.{◌≡◌, List, [], ◌∷◌, ◌++◌, Result, Ok, Err}
use Rattle.checker_rules.specs.CheckedSteps.{NamedStep}
use Rattle.checker_rules.specs.Ran.{BothRan, OneStopped, Stopped}
use Rattle.checker_parts.specs.Endings.{Ending, given_up, had_failed, listener_faulted, memory_refused, ending}
use Rattle.checker_parts.specs.declared.error.CheckerError.{CheckerError}
use Rattle.checker_parts.specs.declared.error.StepFault.{StepFault}
use Rattle.checker_parts.specs.declared.error.StepFault.TheVariants as faults
use Rattle.checker_parts.specs.declared.processor.ProofProcessor as processor
use Rattle.checker_parts.specs.declared.processor.ProofTranscriptProcessor as transcript
use Rattle.checker_steps.specs.declared.processing.ProcessingOf.{ProcessingOf}

-- of a processor, a step with its names and the processor after: `took`, where it took the step, and `faulted`, where it answered a fault
abbrev pub Listens : Type 0 → Type 1
Listens P = processor.Ghosts P

-- of a transcript, the same of a transcript step
abbrev pub ListensImage : Type 0 → Type 1
ListensImage T = transcript.Ghosts T

-- the registered processors and transcripts
pub record Listeners (P T : Type 0) : Type 0 where
  pub processors : List P
  pub transcripts : List T

-- those of the processing
abbrev pub listeners_of : {P T : Type 0} → ProcessingOf P T → Listeners P T
listeners_of p = record {
  processors = p.processors.items;
  transcripts = p.transcript_processors.items;
}

-- every processor ran over the steps, and every transcript over their images
abbrev pub RanOver : {P T : Type 0} → Listens P → ListensImage T → List NamedStep →
    Listeners P T → Listeners P T → Type 0
RanOver listens listens_image es old new = BothRan listens.took listens_image.took
    old.processors old.transcripts es new.processors new.transcripts

-- one box answered a fault at the step, or at its image
abbrev pub StoppedAt : {P T : Type 0} → Listens P → ListensImage T → NamedStep → Listeners P T →
    Listeners P T → Type 0
StoppedAt listens listens_image e old new =
    OneStopped listens.took listens.faulted listens_image.took listens_image.faulted
    old.processors old.transcripts e new.processors new.transcripts

-- one step is delivered on; nothing is said where memory was refused
abbrev pub DeliveredStep : {A P T : Type 0} → Result A StepFault → NamedStep → Listens P →
    ListensImage T → Listeners P T → Listeners P T → Type 0
DeliveredStep (Ok done) e listens listens_image old new =
    RanOver listens listens_image (e ∷ []) old new
DeliveredStep (Err faults.Processor) e listens listens_image old new =
    StoppedAt listens listens_image e old new
DeliveredStep (Err faults.OutOfMemory) e listens listens_image old new = Unit {0}
DeliveredStep (Err (faults.Refused cause)) e listens listens_image old new = ⊥

-- the listeners ran over such a list
abbrev pub DeliveredWhole : {P T : Type 0} → (List NamedStep → Type 0) → Listens P →
    ListensImage T → Listeners P T → Listeners P T → Type 0
DeliveredWhole E listens listens_image old new =
    (es : List NamedStep) × E es × RanOver listens listens_image es old new

-- the listeners ran over the first steps of such a list, and one answered a fault at the next
abbrev pub DeliveredBeginning : {P T : Type 0} → (List NamedStep → Type 0) → Listens P →
    ListensImage T → Listeners P T → Listeners P T → Type 0
DeliveredBeginning E listens listens_image old new =
    (es : List NamedStep) × (e : NamedStep) × (rest : List NamedStep) × E (es ++ e ∷ rest)
    × Stopped listens.took listens.faulted listens_image.took listens_image.faulted
    old.processors old.transcripts es e new.processors new.transcripts

-- these steps are delivered on, up to a fault; nothing is said where memory was refused
abbrev pub DeliveredAll : {A P T : Type 0} → Result A StepFault → List NamedStep → Listens P →
    ListensImage T → Listeners P T → Listeners P T → Type 0
DeliveredAll (Ok done) es listens listens_image old new =
    RanOver listens listens_image es old new
DeliveredAll (Err faults.Processor) es listens listens_image old new =
    DeliveredBeginning (λ xs. xs ≡ es) listens listens_image old new
DeliveredAll (Err faults.OutOfMemory) es listens listens_image old new = Unit {0}
DeliveredAll (Err (faults.Refused cause)) es listens listens_image old new = ⊥

-- a list of E is delivered on, accepted or rejected, up to a fault; nothing is said where memory was refused
abbrev pub DeliveredList : {A P T : Type 0} → Result A StepFault → (List NamedStep → Type 0) →
    Listens P → ListensImage T → Listeners P T → Listeners P T → Type 0
DeliveredList (Ok done) E listens listens_image old new =
    DeliveredWhole E listens listens_image old new
DeliveredList (Err (faults.Refused cause)) E listens listens_image old new =
    DeliveredWhole E listens listens_image old new
DeliveredList (Err faults.Processor) E listens listens_image old new =
    DeliveredBeginning E listens listens_image old new
DeliveredList (Err faults.OutOfMemory) E listens listens_image old new = Unit {0}

-- a list of E is delivered on whole, or up to a fault that a box answered; nothing is said where memory was refused, and a checker that had failed delivers nothing on
abbrev pub DeliveredEnd : {P T : Type 0} → Ending → (List NamedStep → Type 0) → Listens P →
    ListensImage T → Listeners P T → Listeners P T → Type 0
DeliveredEnd (given_up listener_faulted) E listens listens_image old new =
    DeliveredBeginning E listens listens_image old new
DeliveredEnd (given_up memory_refused) E listens listens_image old new = Unit {0}
DeliveredEnd had_failed E listens listens_image old new = old ≡ new
DeliveredEnd _ E listens listens_image old new = DeliveredWhole E listens listens_image old new

-- a call that emits a list of E, accepted or rejected, by its answer
abbrev pub Delivered : {A P T : Type 0} → Result A CheckerError → (List NamedStep → Type 0) →
    Listens P → ListensImage T → Listeners P T → Listeners P T → Type 0
Delivered r E listens listens_image old new =
    DeliveredEnd (ending r) E listens listens_image old new
