use Rattle.std.proofs.Common.{refl, arith}
use Rattle.checker_steps.proofs.PassedLemmas.{passed_more, passed_all, passed_fault}
use Rattle.checker_steps.proofs.processing.tell.Goals as goal

pub loop-processor-init : goal.loop-processor-init
loop-processor-init g c = refl

pub returns-in-Err-clause-fault : goal.returns-in-Err-clause-fault
returns-in-Err-clause-fault g c =
    passed_fault g.P.ProofProcessor.took g.P.ProofProcessor.faulted _ _ _ c.loop-processor.processors _ _ c.loop-processor.invariant (omega arith) c.in-Err.ensures.faulted

pub loop-processor-preserved : goal.loop-processor-preserved
loop-processor-preserved g c =
    passed_more _ _ _ c.loop-processor.processors _ _ c.loop-processor.invariant (omega arith) c.in_default.ensures.took

pub returns-clause-ok : goal.returns-clause-ok
returns-clause-ok g c = passed_all _ _ _ c.loop-processor.processors c.loop-processor.invariant (omega arith)
