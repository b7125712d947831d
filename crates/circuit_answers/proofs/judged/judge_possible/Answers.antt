use Rattle.std.proofs.Common.{ap, sym, ◌∙◌}
use Rattle.answer_text.specs.Literals.{has_lit}
use Rattle.circuit_answers.specs.Answers.{is_any}
use Rattle.circuit_answers.specs.Lines.{possible_text}
use Rattle.circuit_answers.specs.Simulations.{outputs_for}
use Rattle.circuit_answers.proofs.AnswerLemmas.{possible_judged}
use Rattle.circuit_answers.proofs.judged.judge_possible.Goals as goal

pub returns-clause-judged : goal.returns-clause-judged
returns-clause-judged c =
    let input = c.in_ok-input.input.items in
    let outputs = c.in_ok-outputs.outputs.items in
    possible_judged (has_lit c.args.literals.now) c.args.circuit.now input outputs c.in_ok-input.ensures
    (c.in_ok-outputs.ensures ∙ ap (λ i. outputs_for i c.args.circuit.now) c.deref.ensures.value) c.in_ok-text.text.items
    (sym (c.is_any.ensures ∙ ap is_any c.deref-2.ensures.value) ∙ c.if-not-is_any.false)
    (c.in_ok-text.ensures ∙ ap (λ i. possible_text i c.deref-4.result.now) c.deref-3.ensures.value ∙ ap (possible_text input) c.deref-4.ensures.value)
