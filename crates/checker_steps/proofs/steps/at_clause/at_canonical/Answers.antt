use Rattle.checker_steps.proofs.Common.{err_from_is_err_and, on_ok_weaker, is_tautology, canonical, Emits, at_clause, step}
use Rattle.checker_steps.proofs.Common.{canonical_itself, state_of, answers-part, answers-unless-memory, kept-answer, context_state}
use Rattle.std.proofs.Common.{ℕ, List, sym, ap, ◌∙◌, ◌≡◌, Ok, Err}
use Rattle.checker_steps.proofs.DerivedLemmas.{at-refused, at-steps, at-stored, kept_as_previous}
use Rattle.checker_steps.proofs.EmissionLemmas.{unless-stopped, delivered-traced, traced-emits, delivered-unless-memory}
use Rattle.checker_steps.proofs.steps.at_clause.at_canonical.Goals as goal

pub returns-in_err-id : goal.returns-in_err-id
returns-in_err-id g c =
    let a = c.args in let clause = a.clause.now in let new = c.derive.new.ctx in let e = c.in_err-id.field-0.0 in let h = c.in_err-id.ensures in
    let s = context_state a.ctx.now in let apart = λ (ls : List ℕ) (list : clause ≡ canonical ls). sym (ap is_tautology list) ∙ c.requires.no_tautology in
    let answer = λ (ls : List ℕ) (list : clause ≡ canonical ls).
    answers-part e _ (step s (at_clause a.redundant ls a.hashes.now)) (context_state new) (at-refused s a.redundant ls a.hashes.now clause list (apart ls list)) h.answer in
    let itself = canonical_itself clause c.requires.canonical in
    let q = err_from_is_err_and c.from_residual.result c.from_residual.ensures.1 in
    rw (q.1, q.2) (record {
      step = answer;
      kept = kept-answer {A = Unit {0}} (Err e) _ _ _ _ _ _ _ _ (at_clause a.redundant clause a.hashes.now) c.requires.kept (answer clause itself) h.store;
      delivered = λ ls list. delivered-traced g.P.ProofProcessor g.T.ProofTranscriptProcessor {A = Unit {0}} (Err e) s (at_clause a.redundant ls a.hashes.now) _ _ _
          c.requires.kept.form (at-steps s a.redundant ls a.hashes.now clause list (apart ls list)) h.delivered;
    })

pub returns-then-redundant : goal.returns-then-redundant
returns-then-redundant g c =
    let a = c.args in let clause = a.clause.now in let new = c.derive.new.ctx in let id = c.in_ok-id.id in let h = c.in_ok-id.ensures in
    let s = context_state a.ctx.now in let u = context_state new in let apart = λ (ls : List ℕ) (list : clause ≡ canonical ls). sym (ap is_tautology list) ∙ c.requires.no_tautology in
    let answer = λ (ls : List ℕ) (list : clause ≡ canonical ls). at-stored s a.redundant ls a.hashes.now clause list (apart ls list) u u id h.answer h.id
    (ap (λ b. kept_as_previous b clause id u) (sym c.if-redundant.true)) in
    record {
      step = answer;
      kept = kept-answer {A = Unit {0}} (Ok tt) _ _ _ _ _ _ _ _ (at_clause a.redundant clause a.hashes.now) c.requires.kept (answer clause (canonical_itself clause c.requires.canonical)) h.store;
      delivered = λ ls list.
          (_, traced-emits s (at_clause a.redundant ls a.hashes.now) _ _ c.requires.kept.form (at-steps s a.redundant ls a.hashes.now clause list (apart ls list)) h.delivered.1, h.delivered.2);
    }

pub returns : goal.returns
returns g c =
    let a = c.args in let clause = a.clause.now in let new = c.derive.new.ctx in let id = c.in_ok-id.id in let h = c.in_ok-id.ensures in
    let s = context_state a.ctx.now in let u = context_state new in let apart = λ (ls : List ℕ) (list : clause ≡ canonical ls). sym (ap is_tautology list) ∙ c.requires.no_tautology in
    let last = c.set_previous in
    let answer = λ (ls : List ℕ) (list : clause ≡ canonical ls).
    answers-unless-memory last.result (step s (at_clause a.redundant ls a.hashes.now)) (state_of last.new.state new.clause_hasher new.clauses new.variables)
    (on_ok_weaker last.result (λ kept. at-stored s a.redundant ls a.hashes.now clause list (apart ls list) u _ id h.answer h.id
    (kept new.clause_hasher new.clauses new.variables ∙ ap (λ b. kept_as_previous b clause id u) (sym c.if-redundant.false))) last.ensures.state)
    last.ensures.memory in
    record {
      step = answer;
      kept = kept-answer last.result _ _ _ _ _ _ _ _ (at_clause a.redundant clause a.hashes.now) c.requires.kept (answer clause (canonical_itself clause c.requires.canonical)) (unless-stopped last.result h.store);
      delivered = λ ls list. delivered-unless-memory g.P.ProofProcessor g.T.ProofTranscriptProcessor last.result (Emits s (at_clause a.redundant ls a.hashes.now)) _ _ last.ensures.memory
          (_, traced-emits s (at_clause a.redundant ls a.hashes.now) _ _ c.requires.kept.form (at-steps s a.redundant ls a.hashes.now clause list (apart ls list)) h.delivered.1, h.delivered.2);
    }
