use Rattle.checker_steps.proofs.Common.{common_steps, drop_all, err_from_is_err_and, has, state_of, is_marked}
use Rattle.std.proofs.Common.{◌||◌, sym, ap, ◌∙◌, arith}
use Rattle.clause_store.proofs.StatusLemmas.{drop-at}
use Rattle.checker_steps.proofs.ModelLemmas.{causes_from, causes_from-goes, causes_from-none, cause-first, marked-all, marked-none, marked-turn, marks_only}
use Rattle.checker_steps.proofs.steps.model.mark_literals.Goals as goal

pub loop-lit-init : goal.loop-lit-init
loop-lit-init c = grind (arith, common_steps, causes_from-none, marked-none)

pub loop-lit-preserved : goal.loop-lit-preserved
loop-lit-preserved c =
    let cut = drop-at c.args.assignment.now c.loop-lit.lit-index c.lit-item.result c.loop-lit-test.true c.lit-item.is in
    let old = is_marked c.loop-lit.marks in let marked = c.in_ok-mark_literal.ensures.marked in
    record {
      same = λ st h.
          let s = state_of st h c.args.clauses.now c.args.variables.now in
          causes_from-goes s old _ _ _ (c.in_ok-mark_literal.ensures.cause st h) marked ∙ sym (ap (causes_from s old) cut) ∙ c.loop-lit.invariant.same st h;
      marked = λ k. marked-turn old _ _ _ k marked ∙ sym (ap (λ xs. old k || has k xs) cut) ∙ c.loop-lit.invariant.marked k;
    }

pub returns-in_err-mark_literal-clause-cause : goal.returns-in_err-mark_literal-clause-cause
returns-in_err-mark_literal-clause-cause c st h =
    let p = err_from_is_err_and c.from_residual.result c.from_residual.ensures.1 in
    let s = state_of st h c.args.clauses.now c.args.variables.now in let old = is_marked c.loop-lit.marks in
    let cut = drop-at c.args.assignment.now c.loop-lit.lit-index c.lit-item.result c.loop-lit-test.true c.lit-item.is in
    rw (p.1, p.2) (cause-first _ s old _ _ _ (sym (ap (causes_from s old) cut) ∙ c.loop-lit.invariant.same st h) (c.in_err-mark_literal.ensures.cause st h))

pub returns-clause-marked : goal.returns-clause-marked
returns-clause-marked c k =
    marked-all (is_marked c.loop-lit.marks) _ _ k (drop_all c.loop-lit.lit-index c.args.assignment.now c.loop-lit-test.false) (c.loop-lit.invariant.marked k)

pub returns-in_err-mark_literal-clause-listed : goal.returns-in_err-mark_literal-clause-listed
returns-in_err-mark_literal-clause-listed c = rw c.in_err-mark_literal.ensures.same (marks_only _ _ _ c.loop-lit.invariant.marked)

pub returns-clause-listed : goal.returns-clause-listed
returns-clause-listed c = marks_only _ _ _ c.loop-lit.invariant.marked
