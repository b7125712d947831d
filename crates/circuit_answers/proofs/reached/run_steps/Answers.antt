use Rattle.std.proofs.Common.{◌+◌, map, ap, sym, ◌∙◌}
use Rattle.circuit_rules.specs.Checks.{any_output}
use Rattle.circuit_rules.specs.Safety.{lits_true}
use Rattle.circuit_text.specs.Circuits.{latch_of}
use Rattle.circuit_clauses.specs.Machines.{machine_in}
use Rattle.stimulus_text.specs.Stimuli.{inputs_in}
use Rattle.circuit_answers.specs.Reached.{nexts, reach_from, values_at}
use Rattle.circuit_answers.specs.Simulations.{values_of}
use Rattle.circuit_answers.proofs.ReachLemmas.{bad_here, broken_here, goes_here}
use Rattle.circuit_answers.proofs.reached.run_steps.Goals as goal

pub returns-then-not-are_true : goal.returns-then-not-are_true
returns-then-not-are_true c =
    let n = c.args.machine.now.inputs in
    let m = machine_in c.args.machine.now in
    let now = values_of c.in_ok-values.values in
    broken_here n m c.args.steps.now c.loop-step.step-index c.loop-step.index c.step-item.result c.loop-step.states.items now
    (reach_from n m 0 c.args.first.now (inputs_in c.args.steps.now)) c.loop-step-test.true c.step-item.is
    (c.in_ok-values.ensures ∙ ap (λ s. values_at n m s c.deref-in-loop-step.result.now) c.deref.ensures.value
    ∙ ap (values_at n m c.loop-step.states.items) c.deref-in-loop-step.ensures.value) c.loop-step.invariant.same
    (ap (lits_true now) (sym c.deref-in-loop-step-2.ensures.value) ∙ sym c.are_true.ensures ∙ c.if-not-are_true.true)

pub returns-then-is_any_true : goal.returns-then-is_any_true
returns-then-is_any_true c =
    let n = c.args.machine.now.inputs in
    let m = machine_in c.args.machine.now in
    let now = values_of c.in_ok-values.values in
    bad_here n m c.args.steps.now c.loop-step.step-index c.loop-step.index c.step-item.result c.loop-step.states.items now
    (reach_from n m 0 c.args.first.now (inputs_in c.args.steps.now)) c.loop-step-test.true c.step-item.is
    (c.in_ok-values.ensures ∙ ap (λ s. values_at n m s c.deref-in-loop-step.result.now) c.deref.ensures.value
    ∙ ap (values_at n m c.loop-step.states.items) c.deref-in-loop-step.ensures.value) c.loop-step.invariant.same
    (ap (lits_true now) (sym c.deref-in-loop-step-2.ensures.value) ∙ sym c.are_true.ensures ∙ c.if-not-are_true.false)
    (ap (any_output now) (sym c.bad_outputs.ensures) ∙ sym c.is_any_true.ensures ∙ c.if-is_any_true.true)

pub loop-step-preserved : goal.loop-step-preserved
loop-step-preserved c =
    let n = c.args.machine.now.inputs in
    let m = machine_in c.args.machine.now in
    let now = values_of c.in_ok-values.values in
    record {
      count = ap (λ k. k + 1) c.loop-step.invariant.count;
      same =
          goes_here n m c.args.steps.now c.loop-step.step-index c.loop-step.index c.step-item.result c.loop-step.states.items now
          (reach_from n m 0 c.args.first.now (inputs_in c.args.steps.now)) c.loop-step-test.true c.step-item.is
          (c.in_ok-values.ensures ∙ ap (λ s. values_at n m s c.deref-in-loop-step.result.now) c.deref.ensures.value
          ∙ ap (values_at n m c.loop-step.states.items) c.deref-in-loop-step.ensures.value) c.loop-step.invariant.same
          (ap (lits_true now) (sym c.deref-in-loop-step-2.ensures.value) ∙ sym c.are_true.ensures ∙ c.if-not-are_true.false)
          (ap (any_output now) (sym c.bad_outputs.ensures) ∙ sym c.is_any_true.ensures ∙ c.if-is_any_true.false) c.in_ok-states.states.items
          (c.in_ok-states.ensures ∙ ap (λ l. nexts now (map latch_of l)) c.deref-in-loop-step-3.ensures.value);
    }
