use Rattle.checker_steps.proofs.Common.{told}
use Rattle.checker_steps.proofs.PassedLemmas.{Passed}
use Rattle.checker_steps.proofs.processing.tell.Given as goal

abbrev pub invariant-loop-processor : goal.invariant-loop-processor
invariant-loop-processor g l =
    Passed (λ old new. g.P.ProofProcessor.took old (told l.step l.names.0.now) new) l.processor-index l.initial.processors l.processors
