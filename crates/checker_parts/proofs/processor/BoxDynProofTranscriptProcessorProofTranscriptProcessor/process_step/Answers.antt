use Rattle.std.proofs.lemmas.Result.{on_ok_weaker, on_err_weaker}
use Rattle.checker_parts.proofs.InBoxes.{in_box}
use Rattle.checker_parts.proofs.processor.BoxDynProofTranscriptProcessorProofTranscriptProcessor.process_step.Goals as goal

pub returns : goal.returns
returns g c = record {
  took = on_ok_weaker c.process_step.result (in_box c.args.self.now (λ o. (goal.ProofTranscriptProcessor-dyn g o).took o.1) _ _ c.deref_box_mut-1.ensures.value.1 _) c.process_step.ensures.0;
  faulted = on_err_weaker c.process_step.result (in_box c.args.self.now (λ o. (goal.ProofTranscriptProcessor-dyn g o).faulted o.1) _ _ c.deref_box_mut-1.ensures.value.1 _) c.process_step.ensures.1;
}
