use Rattle.std.proofs.Common.{◌++◌, ap, ◌∙◌}
use Rattle.circuit_rules.specs.Checks.{moved_gate}
use Rattle.circuit_rules.specs.Circuits.{gate_clauses}
use Rattle.circuit_text.specs.Circuits.{gate_of}
use Rattle.circuit_clauses.specs.Causes.{gate_fits}
use Rattle.circuit_clauses.proofs.ClauseLemmas.{moved_more}
use Rattle.circuit_clauses.proofs.PlaceLemmas.{at_mapped}
use Rattle.circuit_clauses.proofs.gates.add_moved.Goals as goal

pub moved_gate-requires : goal.moved_gate-requires
moved_gate-requires c =
    at_mapped (gate_fits c.args.shift.distance) gate_of c.args.gates.now c.loop-gate.gate-index c.gate-item.result c.requires c.loop-gate-test.true c.gate-item.is

pub loop-gate-preserved : goal.loop-gate-preserved
loop-gate-preserved c =
    let p = c.args.shift in
    moved_more gate_of c.args.gates.now c.loop-gate.gate-index c.gate-item.result c.args.formula.now c.loop-gate.formula c.add_gate.new.formula c.loop-gate-test.true
    c.gate-item.is (moved_gate p.inputs p.distance)
    (c.in_ok-add_gate.ensures ∙ ap (λ g. c.loop-gate.formula ++ gate_clauses g) c.moved_gate.ensures) c.loop-gate.invariant
