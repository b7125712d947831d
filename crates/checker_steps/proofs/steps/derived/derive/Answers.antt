use Rattle.std.proofs.Common.{◌==◌, ℕ, ap, ◌∙◌, Err}
use Rattle.checker_steps.proofs.Common.{err_from_is_err_and, check, ready, accept, check_trace, store_fault, state_of, answers-part, context_state}
use Rattle.checker_steps.proofs.Common.{listeners_of, derived}
use Rattle.checker_steps.proofs.DerivedLemmas.{answers-unstored, derived-answer, derived-steps, derived-unchecked, quiet-unstored, steps-refused, steps-unchecked}
use Rattle.checker_steps.proofs.EmissionLemmas.{unless-stopped, answers-fault, delivered-fault, delivered-refused}
use Rattle.checker_steps.proofs.UnseenLemmas.{seen-where}
use Rattle.checker_steps.proofs.steps.derived.derive.Goals as goal

pub returns-in_err-check_clause_with_hashes : goal.returns-in_err-check_clause_with_hashes
returns-in_err-check_clause_with_hashes g c =
    let a = c.args in let s = context_state a.ctx.now in
    let after = c.check_clause_with_hashes.new in let e = c.in_err-check_clause_with_hashes.field-0.0 in let h = c.in_err-check_clause_with_hashes.ensures in
    let t = state_of a.ctx.now.checker_state after.hasher after.clauses after.variables in
    let q = err_from_is_err_and c.from_residual.result c.from_residual.ensures.1 in
    rw (q.1, q.2) (record {
      answer = answers-part e _ (derived s a.redundant a.clause.now a.hashes.now) t (derived-unchecked s a.redundant a.clause.now a.hashes.now) h.answer;
      id = tt;
      store = h.store;
      delivered = delivered-refused g.P.ProofProcessor g.T.ProofTranscriptProcessor ℕ e _ (check s a.clause.now a.hashes.now accept) t _
          h.quiet (steps-unchecked s a.redundant a.clause.now a.hashes.now) h.answer;
    })

pub returns-in_err-emit_derived-in-Ok : goal.returns-in_err-emit_derived-in-Ok
returns-in_err-emit_derived-in-Ok g c =
    let a = c.args in let s = context_state a.ctx.now in
    let e = c.in_err-emit_derived-in-Ok.field-0.0 in let told = c.as_slice-propagations in
    let old = listeners_of a.ctx.now.processing in let new = listeners_of c.emit_derived.new.processing in
    let emitted = c.in_err-emit_derived-in-Ok.ensures (check_trace (ready s a.clause.now) a.clause.now a.hashes.now)
    (seen-where old.processors c.is_empty-traced.result told.result.now _ (c.is_empty-traced.ensures ∙ ap (λ n. n == 0) a.ctx.now.processing.processors.ok.0)
    (λ on. told.ensures.value ∙ c.in_ok-check_clause_with_hashes.ensures.trace on)) in
    let q = err_from_is_err_and c.from_residual-in_err-emit_derived-in-Ok.result c.from_residual-in_err-emit_derived-in-Ok.ensures.1 in
    rw (q.1, q.2) (record {
      answer = answers-fault g.P.ProofProcessor g.T.ProofTranscriptProcessor ℕ ℕ e _ _ _ old new emitted;
      id = tt;
      store = unless-stopped {A = ℕ} (Err e) c.in-Ok.ensures.store;
      delivered = delivered-fault g.P.ProofProcessor g.T.ProofTranscriptProcessor ℕ ℕ e _ _ old new (derived-steps s a.redundant a.clause.now a.hashes.now
          c.in_ok-check_clause_with_hashes.ensures.answer (c.in-Ok.ensures.answer c.check_clause_with_hashes.new.variables)) emitted;
    })

pub returns-in_ok-emit_derived-in-Ok-clause-answer : goal.returns-in_ok-emit_derived-in-Ok-clause-answer
returns-in_ok-emit_derived-in-Ok-clause-answer g c =
    derived-answer (context_state c.args.ctx.now) c.args.redundant c.args.clause.now c.args.hashes.now
    c.in_ok-check_clause_with_hashes.ensures.answer (c.in-Ok.ensures.answer c.check_clause_with_hashes.new.variables)

pub returns-in_ok-emit_derived-in-Ok-clause-delivered : goal.returns-in_ok-emit_derived-in-Ok-clause-delivered
returns-in_ok-emit_derived-in-Ok-clause-delivered g c =
    let a = c.args in let s = context_state a.ctx.now in let told = c.as_slice-propagations in
    let checked = c.in_ok-check_clause_with_hashes.ensures in (
      _,
      derived-steps s a.redundant a.clause.now a.hashes.now checked.answer (c.in-Ok.ensures.answer c.check_clause_with_hashes.new.variables),
      c.in_ok-emit_derived-in-Ok.ensures (check_trace (ready s a.clause.now) a.clause.now a.hashes.now) (seen-where a.ctx.now.processing.processors.items
          c.is_empty-traced.result told.result.now _ (c.is_empty-traced.ensures ∙ ap (λ n. n == 0) a.ctx.now.processing.processors.ok.0)
          (λ on. told.ensures.value ∙ checked.trace on)),
    )

pub returns-in-Err-clause-answer : goal.returns-in-Err-clause-answer
returns-in-Err-clause-answer g c =
    let a = c.args in let names = c.check_clause_with_hashes.new.variables in
    rw c.store_fault.ensures (answers-unstored (context_state a.ctx.now) a.redundant a.clause.now a.hashes.now
    c.in_ok-check_clause_with_hashes.ensures.answer _ c.in-Err.fault (c.in-Err.ensures.answer names))

pub returns-in-Err-clause-delivered : goal.returns-in-Err-clause-delivered
returns-in-Err-clause-delivered g c =
    let a = c.args in let s = context_state a.ctx.now in
    let fault = c.in-Err.fault in let names = c.check_clause_with_hashes.new.variables in
    rw c.store_fault.ensures (delivered-refused g.P.ProofProcessor g.T.ProofTranscriptProcessor ℕ (store_fault fault) _ (derived s a.redundant a.clause.now a.hashes.now) _ _
    (quiet-unstored fault) (steps-refused s a.redundant a.clause.now a.hashes.now)
    (answers-unstored s a.redundant a.clause.now a.hashes.now c.in_ok-check_clause_with_hashes.ensures.answer
    (state_of c.store_clause.new.state c.check_clause_with_hashes.new.hasher c.store_clause.new.clauses names) fault (c.in-Err.ensures.answer names)))
