use Rattle.std.proofs.Common.{◌≡◌, None, ap, sym, ◌∙◌}
use Rattle.answer_text.specs.Literals.{has_lit}
use Rattle.circuit_answers.specs.Causes.{different_cause}
use Rattle.circuit_answers.specs.Lines.{different_text}
use Rattle.circuit_answers.specs.Simulations.{outputs_for}
use Rattle.circuit_answers.proofs.AnswerLemmas.{alike, different_judged}
use Rattle.circuit_answers.proofs.judged.judge_different.Goals as goal

pub returns-clause-judged : goal.returns-clause-judged
returns-clause-judged c =
    let none : different_cause c.args.one.now c.args.other.now ≡ None = cc in
    let input = c.in_ok-input.input.items in
    let outputs = c.in_ok-outputs.outputs.items in
    let others = c.in_ok-others.others.items in
    different_judged (has_lit c.args.literals.now) c.args.one.now input outputs c.in_ok-input.ensures
    (c.in_ok-outputs.ensures ∙ ap (λ i. outputs_for i c.args.one.now) c.deref.ensures.value) c.args.other.now others
    (c.in_ok-others.ensures ∙ ap (λ i. outputs_for i c.args.other.now) c.deref-2.ensures.value) c.in_ok-text.text.items c.are_same.result (alike c.args.one.now c.args.other.now none).0
    (λ equal. c.are_same.ensures.1 (c.deref-3.ensures.value ∙ equal ∙ sym c.deref-4.ensures.value)) c.if-are_same.false
    (c.in_ok-text.ensures ∙ ap (λ i. different_text i c.deref-6.result.now c.deref-7.result.now) c.deref-5.ensures.value
    ∙ ap (λ os. different_text input os c.deref-7.result.now) c.deref-6.ensures.value ∙ ap (different_text input outputs) c.deref-7.ensures.value)
