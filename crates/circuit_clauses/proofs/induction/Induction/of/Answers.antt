use Rattle.std.proofs.Common.{◌≡◌, ◌++◌, None, map, refl, ap, ◌∙◌}
use Rattle.circuit_rules.specs.Checks.{moved_gate}
use Rattle.circuit_text.specs.Circuits.{gate_of}
use Rattle.circuit_clauses.specs.Causes.{gates_fit, safe_cause}
use Rattle.circuit_clauses.specs.Formulas.{gates_in}
use Rattle.circuit_clauses.proofs.CauseLemmas.{fits_step, invariant_fits, is_induction}
use Rattle.circuit_clauses.proofs.induction.Induction.of.Goals as goal

pub moved_gates-requires : goal.moved_gates-requires
moved_gates-requires c =
    let n = c.of-counts.result in
    let none : safe_cause c.args.machine c.args.invariant.now ≡ None = cc in
    ap (λ gs. gates_fit n.own (map gate_of gs)) c.deref.ensures.value
    ∙ invariant_fits c.args.machine c.args.invariant.now n.states n.own 0 none c.of-counts.ensures.0 c.of-counts.ensures.1

pub returns-clause-induction : goal.returns-clause-induction
returns-clause-induction c =
    let n = c.of-counts.result in
    let none : safe_cause c.args.machine c.args.invariant.now ≡ None = cc in
    let more = c.in_ok-more.ensures ∙ ap (λ gs. map (moved_gate n.states n.own) (map gate_of gs)) c.deref.ensures.value in
    let gates =
    c.in_ok-gates.ensures ∙ ap (λ gs. map gate_of gs ++ map gate_of c.deref-3.result.now) c.deref-2.ensures.value
    ∙ ap (λ gs. gates_in c.args.machine ++ map gate_of gs) c.deref-3.ensures.value ∙ ap (λ gs. gates_in c.args.machine ++ gs) more in
    is_induction c.args.machine c.args.invariant.now n.states n.own c.output_of.result none c.of-counts.ensures.0 c.of-counts.ensures.1
    (record { machine = c.args.machine; gates = c.in_ok-gates.gates; invariant = c.moved-output.result; last = n.last }) refl c.of-counts.ensures.2 c.output_of.ensures
    c.moved-output.ensures gates

pub returns-clause-fits : goal.returns-clause-fits
returns-clause-fits c =
    let n = c.of-counts.result in
    let none : safe_cause c.args.machine c.args.invariant.now ≡ None = cc in
    let more = c.in_ok-more.ensures ∙ ap (λ gs. map (moved_gate n.states n.own) (map gate_of gs)) c.deref.ensures.value in
    let gates =
    c.in_ok-gates.ensures ∙ ap (λ gs. map gate_of gs ++ map gate_of c.deref-3.result.now) c.deref-2.ensures.value
    ∙ ap (λ gs. gates_in c.args.machine ++ map gate_of gs) c.deref-3.ensures.value ∙ ap (λ gs. gates_in c.args.machine ++ gs) more in
    fits_step c.args.machine c.args.invariant.now n.states n.own c.output_of.result none c.of-counts.ensures.0 c.of-counts.ensures.1
    (record { machine = c.args.machine; gates = c.in_ok-gates.gates; invariant = c.moved-output.result; last = n.last }) refl c.of-counts.ensures.2 c.output_of.ensures
    c.moved-output.ensures gates
