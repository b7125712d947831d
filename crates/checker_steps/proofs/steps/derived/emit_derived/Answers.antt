use Rattle.checker_steps.proofs.Common.{common_steps, listeners_of}
use Rattle.std.proofs.Common.{arith}
use Rattle.checker_steps.proofs.EmissionLemmas.{all-one}
use Rattle.checker_steps.proofs.DeliveryLemmas.{ran-none}
use Rattle.checker_steps.proofs.UnseenLemmas.{delivers-seen}
use Rattle.checker_steps.proofs.steps.derived.emit_derived.Goals as goal

pub returns-in-New : goal.returns-in-New
returns-in-New g c = grind (arith, common_steps, all-one, delivers-seen)

pub returns-in-NewlyIrredundant : goal.returns-in-NewlyIrredundant
returns-in-NewlyIrredundant g c = λ ids seen.
    rw c.in-NewlyIrredundant.is (all-one g.P.ProofProcessor g.T.ProofTranscriptProcessor _ _ _ c.emit_make_irredundant.result c.emit_make_irredundant.ensures)

pub returns-in-Duplicate : goal.returns-in-Duplicate
returns-in-Duplicate g c = λ ids seen.
    let P = g.P.ProofProcessor in let T = g.T.ProofTranscriptProcessor in
    rw c.in-Duplicate.is (ran-none P T (listeners_of c.args.processing.now))
