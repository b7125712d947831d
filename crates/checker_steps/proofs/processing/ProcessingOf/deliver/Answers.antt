use Rattle.std.proofs.Common.{sym, ap, ◌∙◌, arith}
use Rattle.checker_steps.proofs.Common.{IfErr-weaker, on_ok_weaker, both_ran_alone, both_ran_quiet, transcripts_of}
use Rattle.checker_steps.proofs.DeliveryLemmas.{fault-weaker, delivers-image}
use Rattle.checker_steps.proofs.PassedLemmas.{fault_of_slice, took_of_slice}
use Rattle.checker_steps.proofs.processing.ProcessingOf.deliver.Goals as goal

pub returns-then-is_empty-clause-delivers : goal.returns-then-is_empty-clause-delivers
returns-then-is_empty-clause-delivers g c =
    both_ran_alone _ _ _ _ _ _ (took_of_slice g.P.ProofProcessor.took _ _ _ c.tell.new.processors _ c.deref_mut.ensures.value
    c.tell.auto.processors c.deref_mut.ensures.len c.in_ok-tell.ensures.ok) (grind arith)

pub returns-in-None-clause-delivers : goal.returns-in-None-clause-delivers
returns-in-None-clause-delivers g c =
    both_ran_quiet _ _ _ _ _ _ (took_of_slice g.P.ProofProcessor.took _ _ _ c.tell.new.processors _ c.deref_mut.ensures.value
    c.tell.auto.processors c.deref_mut.ensures.len c.in_ok-tell.ensures.ok)
    (sym c.in-Ok.ensures.ok ∙ ap transcripts_of c.in-None.is)

pub returns-in-Some-clause-delivers : goal.returns-in-Some-clause-delivers
returns-in-Some-clause-delivers g c =
    delivers-image g.P.ProofProcessor g.T.ProofTranscriptProcessor _ _ _ _ (took_of_slice g.P.ProofProcessor.took _ _ _ c.tell.new.processors _ c.deref_mut.ensures.value
    c.tell.auto.processors c.deref_mut.ensures.len c.in_ok-tell.ensures.ok)
    (sym c.in-Ok.ensures.ok ∙ ap transcripts_of c.in-Some.is) c.tell_image.result
    (on_ok_weaker c.tell_image.result (λ h. took_of_slice g.T.ProofTranscriptProcessor.took _ _ _ c.tell_image.new.transcripts _
    c.deref_mut-in-Some.ensures.value c.tell_image.auto.transcripts c.deref_mut-in-Some.ensures.len h) c.tell_image.ensures.ok)
    (IfErr-weaker c.tell_image.result _ _ (fault-weaker _
    (λ h. fault_of_slice g.T.ProofTranscriptProcessor.took g.T.ProofTranscriptProcessor.faulted _ _ _ c.tell_image.new.transcripts _
    c.deref_mut-in-Some.ensures.value c.tell_image.auto.transcripts c.deref_mut-in-Some.ensures.len h)) c.tell_image.ensures.fault)
