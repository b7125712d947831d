use Rattle.checker_steps.proofs.Common.{transcript_of}
use Rattle.checker_steps.proofs.PassedLemmas.{Passed}
use Rattle.checker_steps.proofs.processing.tell_image.Given as goal

abbrev pub invariant-loop-transcript : goal.invariant-loop-transcript
invariant-loop-transcript g l =
    Passed (λ old new. g.T.ProofTranscriptProcessor.took old (transcript_of l.image) new) l.transcript-index l.initial.transcripts l.transcripts
