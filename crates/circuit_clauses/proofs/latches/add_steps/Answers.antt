use Rattle.std.proofs.Common.{◌+◌, ◌^◌, map, nat_lt}
use Rattle.std.proofs.lemmas.Bool.{ltb-true}
use Rattle.circuit_rules.specs.Circuits.{Latch}
use Rattle.circuit_rules.specs.Safety.{step_clauses}
use Rattle.circuit_text.specs.Circuits.{latch_of}
use Rattle.circuit_clauses.specs.Machines.{latch_clauses}
use Rattle.circuit_clauses.proofs.MachineLemmas.{one_more, steps_last}
use Rattle.circuit_clauses.proofs.PlaceLemmas.{at_mapped}
use Rattle.circuit_clauses.proofs.latches.add_steps.Goals as goal

pub add_latch-requires : goal.add_latch-requires
add_latch-requires c =
    let d = c.args.next.distance in
    let x = c.latch-item.result in
    ltb-true ((latch_of x).var + d) (2 ^ 28)
    (at_mapped (λ (y : Latch). nat_lt (y.var + d) (2 ^ 28)) latch_of c.args.latches.now c.loop-latch.latch-index x c.requires c.loop-latch-test.true c.latch-item.is)

pub loop-latch-preserved : goal.loop-latch-preserved
loop-latch-preserved c =
    let d = c.args.next.distance in
    one_more (λ xs. step_clauses d (map latch_of xs)) (λ x. latch_clauses d (latch_of x)) (steps_last d latch_of)
    c.args.latches.now c.loop-latch.latch-index c.latch-item.result c.args.formula.now c.loop-latch.formula c.add_latch.new.formula c.loop-latch-test.true
    c.latch-item.is c.in_ok-add_latch.ensures c.loop-latch.invariant
