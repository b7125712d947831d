use Rattle.std.proofs.Common.{◌≡◌}
use Rattle.checker_parts.proofs.InBoxes.{at_box}
use Rattle.checker_parts.proofs.processor.BoxDynProofProcessorProofProcessor.output.Goals as goal

pub returns : goal.returns
returns g c = at_box c.args.self.now (λ o. c.output.result.now ≡ (goal.ProofProcessor-dyn g o).shown o.1) _ c.deref_box-1.ensures.1 c.output.ensures
