use Rattle.std.proofs.Common.{refl, arith}
use Rattle.checker_steps.proofs.PassedLemmas.{passed_more, passed_all, passed_fault}
use Rattle.checker_steps.proofs.processing.tell_image.Goals as goal

pub loop-transcript-init : goal.loop-transcript-init
loop-transcript-init g c = refl

pub returns-in-Err-clause-fault : goal.returns-in-Err-clause-fault
returns-in-Err-clause-fault g c =
    passed_fault g.T.ProofTranscriptProcessor.took g.T.ProofTranscriptProcessor.faulted _ _ _ c.loop-transcript.transcripts _ _ c.loop-transcript.invariant (omega arith) c.in-Err.ensures.faulted

pub loop-transcript-preserved : goal.loop-transcript-preserved
loop-transcript-preserved g c =
    passed_more _ _ _ c.loop-transcript.transcripts _ _ c.loop-transcript.invariant (omega arith) c.in_default.ensures.took

pub returns-clause-ok : goal.returns-clause-ok
returns-clause-ok g c = passed_all _ _ _ c.loop-transcript.transcripts c.loop-transcript.invariant (omega arith)
