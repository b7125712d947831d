use Rattle.checker_steps.proofs.Common.{common_steps, err_from_is_err_and, check, accept}
use Rattle.checker_steps.proofs.Common.{context_state, core_clause, ready, NamedStep, checked_failed_assumptions, check_trace}
use Rattle.std.proofs.Common.{sym, ◌∙◌, arith, ◌==◌, ℕ, List, refl, ap}
use Rattle.checker_steps.proofs.CoreLemmas.{core-told, core-unchecked, negations-apart, negations-canonical}
use Rattle.checker_steps.proofs.EmissionLemmas.{answers-delivers, delivered-refused}
use Rattle.checker_steps.proofs.DeliveryLemmas.{delivered-one}
use Rattle.checker_steps.proofs.UnseenLemmas.{delivers-seen, seen-where}
use Rattle.checker_steps.proofs.steps.failed_assumptions.check_core.Goals as goal

pub check_clause_with_hashes-requires-clause-no_tautology : goal.check_clause_with_hashes-requires-clause-no_tautology
check_clause_with_hashes-requires-clause-no_tautology g c =
    rw (c.deref.ensures.value ∙ c.in-Ok.ensures) (negations-apart c.args.core.now c.requires.canonical c.requires.no_tautology)

pub returns-in_err-check_clause_with_hashes-clause-answer : goal.returns-in_err-check_clause_with_hashes-clause-answer
returns-in_err-check_clause_with_hashes-clause-answer g c = grind (arith, common_steps, negations-canonical, err_from_is_err_and)

pub returns-in_err-check_clause_with_hashes-clause-delivered : goal.returns-in_err-check_clause_with_hashes-clause-delivered
returns-in_err-check_clause_with_hashes-clause-delivered g c =
    let a = c.args in let err = c.in_err-check_clause_with_hashes in let s = context_state a.ctx.now in
    let clause = c.deref.ensures.value ∙ c.in-Ok.ensures ∙ sym (negations-canonical a.core.now c.requires.canonical c.requires.no_tautology) in
    let q = err_from_is_err_and c.from_residual.result c.from_residual.ensures.1 in
    rw (q.1, q.2) (delivered-refused g.P.ProofProcessor g.T.ProofTranscriptProcessor (Unit {0}) err.field-0.0 _
    (check s (core_clause a.core.now) a.hashes.now accept) _ _
    err.ensures.quiet (core-unchecked s a.core.now a.hashes.now) (rw clause at err.ensures.answer))

pub returns-clause-answer : goal.returns-clause-answer
returns-clause-answer g c = grind (arith, common_steps, negations-canonical, answers-delivers)

pub returns-clause-delivered : goal.returns-clause-delivered
returns-clause-delivered g c =
    let a = c.args in let ctx = a.ctx.now in let checked = c.in_ok-check_clause_with_hashes.ensures in let told = c.emit_failed_assumptions in
    let clause = c.deref.ensures.value ∙ c.in-Ok.ensures ∙ sym (negations-canonical a.core.now c.requires.canonical c.requires.no_tautology) in
    let seen = seen-where ctx.processing.processors.items _ c.as_slice-propagations.result.now _ (c.is_empty-traced.ensures ∙ ap (λ n. n == 0) ctx.processing.processors.ok.0)
    (λ on. c.as_slice-propagations.ensures.value ∙ checked.trace on ∙ ap (λ (x : List ℕ). check_trace (ready (context_state ctx) x) x a.hashes.now) clause) in
    let shown : List ℕ → NamedStep = λ x. record { step = checked_failed_assumptions a.core.now x; names = c.check_clause_with_hashes.new.variables } in
    delivered-one g.P.ProofProcessor g.T.ProofTranscriptProcessor _ _ _ _ told.result (core-told (context_state ctx) _ a.core.now a.hashes.now (rw clause at checked.answer))
    (delivers-seen g.P.ProofProcessor g.T.ProofTranscriptProcessor told.result shown _ _ _ _ seen refl told.ensures)
