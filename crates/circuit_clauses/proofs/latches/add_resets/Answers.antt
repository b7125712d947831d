use Rattle.std.proofs.Common.{map}
use Rattle.circuit_rules.specs.Safety.{reset_clause, reset_clauses}
use Rattle.circuit_text.specs.Circuits.{latch_of}
use Rattle.circuit_clauses.proofs.MachineLemmas.{one_more, resets_last}
use Rattle.circuit_clauses.proofs.latches.add_resets.Goals as goal

pub loop-latch-preserved : goal.loop-latch-preserved
loop-latch-preserved c =
    one_more (λ xs. reset_clauses (map latch_of xs)) (λ x. reset_clause (latch_of x).var (latch_of x).reset) (resets_last latch_of)
    c.args.latches.now c.loop-latch.latch-index c.latch-item.result c.args.formula.now c.loop-latch.formula c.add_reset.new.formula c.loop-latch-test.true
    c.latch-item.is c.in_ok-add_reset.ensures c.loop-latch.invariant
