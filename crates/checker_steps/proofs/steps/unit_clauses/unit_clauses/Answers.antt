use Rattle.checker_steps.proofs.Common.{err_from_is_err_and, kept-answer, context_state, listeners_of, unit_clauses}
use Rattle.std.proofs.Common.{Err}
use Rattle.std.proofs.Math.ListN.{drop_of_length-le}
use Rattle.checker_steps.proofs.UnitsSoFar.{drop-pair, form-unit, so-far-answer, so-far-delivered, so-far-more, so-far-none, so-far-refused, so-far-stopped}
use Rattle.checker_steps.proofs.steps.unit_clauses.unit_clauses.Goals as goal

pub loop-lit-init : goal.loop-lit-init
loop-lit-init g c = record { kept = c.requires; so_far = so-far-none }

pub returns-in_err-derive : goal.returns-in_err-derive
returns-in_err-derive g c =
    let us = c.args.units.now in let new = c.derive.new.ctx in let e = c.in_err-derive.field-0.0 in let h = c.in_err-derive.ensures in
    let far = rw (drop-pair us c.loop-lit.lit-index c.loop-lit-item.result c.loop-lit-test.true c.loop-lit-item.is) at c.loop-lit.invariant.so_far in
    let answer = so-far-refused far e (context_state new) h.answer in
    let q = err_from_is_err_and c.from_residual.result c.from_residual.ensures.1 in
    rw (q.1, q.2) (record {
      step = answer;
      kept = kept-answer {A = Unit {0}} (Err e) _ _ _ _ _ _ _ _ (unit_clauses us) c.requires answer h.store;
      delivered = so-far-stopped far e (context_state new) (listeners_of new.processing) c.requires.form h.answer h.delivered;
    })

pub loop-lit-preserved : goal.loop-lit-preserved
loop-lit-preserved g c =
    let p = c.loop-lit-item.result in let new = c.derive.new.ctx in let t = context_state new in let h = c.in_ok-derive.ensures in
    let far = rw (drop-pair c.args.units.now c.loop-lit.lit-index p c.loop-lit-test.true c.loop-lit-item.is) at c.loop-lit.invariant.so_far in
    record {
      kept = record { form = form-unit (context_state c.loop-lit.ctx) t p c.loop-lit.invariant.kept.form h.answer.1; store = h.store };
      so_far = so-far-more far t (listeners_of new.processing) h.answer h.delivered;
    }

pub returns : goal.returns
returns g c =
    let far = rw (drop_of_length-le c.args.units.now c.loop-lit-test.false) at c.loop-lit.invariant.so_far in
    record { step = so-far-answer far; kept = c.loop-lit.invariant.kept; delivered = so-far-delivered far c.requires.form }
