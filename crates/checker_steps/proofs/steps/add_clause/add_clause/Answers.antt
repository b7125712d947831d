use Rattle.std.proofs.Common.{◌≡◌, ◌<◌, ℕ, false, List, [], None, Some, Err, ap, ◌∙◌, subst, refl}
use Rattle.checker_steps.proofs.Common.{is_canonical, canonical, Emits, emits_input, know_clause, add_clause, step, count_limit, count_of}
use Rattle.checker_steps.proofs.Common.{canonical-is, both_ran_nil, cause_of, store_fault, state_of, kept-answer, context_state, IsFaultOf}
use Rattle.checker_steps.proofs.Common.{early_cause, taken}
use Rattle.checker_steps.proofs.AddClauseLemmas.{add-accepts, add-unsat, answers-input, answers-unstored_input, early-first, early-ids, early-room, unless-unstored}
use Rattle.checker_steps.proofs.AddClauseLemmas.{emits-added, emits-unsat}
use Rattle.checker_steps.proofs.DerivedLemmas.{quiet-unstored}
use Rattle.checker_steps.proofs.EmissionLemmas.{answers-all, delivered-all, unless-stopped, answers-accept, emits-refused, delivered-refused}
use Rattle.checker_steps.proofs.steps.add_clause.add_clause.Goals as goal

pub returns-then-ctx-clause-step : goal.returns-then-ctx-clause-step
returns-then-ctx-clause-step g c = answers-accept (add-unsat (context_state c.args.ctx.now) c.args.lits.now c.if-ctx.true) refl

pub returns-then-ctx-clause-delivered : goal.returns-then-ctx-clause-delivered
returns-then-ctx-clause-delivered g c =
    let s = context_state c.args.ctx.now in
    ([], emits-unsat s c.args.lits.now c.if-ctx.true, both_ran_nil _ _ _ _)

pub returns-in-Some-clause-step : goal.returns-in-Some-clause-step
returns-in-Some-clause-step g c =
    let ctx = c.args.ctx.now in let s = context_state ctx in
    answers-input c.in-Some.cause s c.args.lits.now c.if-ctx.false
    (early-first s (canonical c.args.lits.now) (cause_of c.in-Some.cause)
    (subst (λ (x : List ℕ). early_cause s x ≡ Some (cause_of c.in-Some.cause)) (c.as_slice-clause.ensures.value ∙ c.in-Ok.ensures.items) (c.in-Some.ensures ctx.checker_state ctx.clause_hasher)))

pub returns-in-Some-clause-delivered : goal.returns-in-Some-clause-delivered
returns-in-Some-clause-delivered g c =
    ([], emits-refused (context_state c.args.ctx.now) (add_clause c.args.lits.now) [] (cause_of c.in-Some.cause) (returns-in-Some-clause-step g c).0 refl, both_ran_nil _ _ _ _)

pub take_clause-taken-requires-clause-canonical : goal.take_clause-taken-requires-clause-canonical
take_clause-taken-requires-clause-canonical g c = ap is_canonical (c.as_slice-clause.ensures.value ∙ c.in-Ok.ensures.items) ∙ canonical-is c.args.lits.now

pub take_clause-taken-requires-clause-room : goal.take_clause-taken-requires-clause-room
take_clause-taken-requires-clause-room g c =
    let ctx = c.args.ctx.now in early-ids (context_state ctx) c.as_slice-clause.result.now (c.in_default-early_cause.ensures ctx.checker_state ctx.clause_hasher)

-- the clause was not stored
pub returns-in-Err : goal.returns-in-Err
returns-in-Err g c =
    let ctx = c.args.ctx.now in let ls = c.args.lits.now in let s = context_state ctx in let fault = c.in-Err.fault in
    let list = c.as_slice-clause.ensures.value ∙ c.in-Ok.ensures.items in
    let early = subst (λ (x : List ℕ). early_cause s x ≡ None) list (c.in_default-early_cause.ensures ctx.checker_state ctx.clause_hasher) in
    let after = state_of c.take_clause-taken.new.state ctx.clause_hasher c.take_clause-taken.new.clauses c.take_clause-taken.new.variables in
    let answer = answers-unstored_input fault s after ls c.if-ctx.false early (subst (λ (x : List ℕ). IsFaultOf fault x s after) list c.in-Err.ensures.fault) in
    rw c.store_fault.ensures (record {
      step = answer;
      kept = kept-answer {A = Unit {0}} (Err (store_fault fault)) _ _ _ _ _ _ _ _ (add_clause ls) c.requires answer (unless-unstored _ fault c.in-Err.ensures.store);
      delivered = delivered-refused g.P.ProofProcessor g.T.ProofTranscriptProcessor (Unit {0}) (store_fault fault) (Emits s (add_clause ls)) (step s (add_clause ls)) after _ (quiet-unstored fault)
          (λ cause refused. emits-refused s (add_clause ls) [] cause refused refl) answer;
      after_unsat = λ unsat. absurd cc;
    })

pub returns-in-Ok-taken : goal.returns-in-Ok-taken
returns-in-Ok-taken g c =
    let ctx = c.args.ctx.now in
    let ls = c.args.lits.now in let s = context_state ctx in let h = c.in-Ok-taken.ensures in let r = c.emit_added.result in
    let list = c.as_slice-clause.ensures.value ∙ c.in-Ok.ensures.items in
    let early = subst (λ (x : List ℕ). early_cause s x ≡ None) list (c.in_default-early_cause.ensures ctx.checker_state ctx.clause_hasher) in
    let none = early-room s (canonical ls) early (subst (λ (x : List ℕ). count_of false x s.clauses < count_limit) list h.room) in
    let answer = answers-all g.P.ProofProcessor g.T.ProofTranscriptProcessor _ _ _ r _ _ c.emit_added.ensures
    (answers-accept (add-accepts s ls c.if-ctx.false none) (h.state ∙ ap (taken s) list)) in
    record {
      step = answer;
      kept = kept-answer r _ _ _ _ _ _ _ _ (add_clause ls) c.requires answer (unless-stopped r h.store);
      delivered = delivered-all g.P.ProofProcessor g.T.ProofTranscriptProcessor (Emits s (add_clause ls)) _ _ _ r
          (emits-added s ls _ c.if-ctx.false none (h.emitted ∙ ap (λ (x : List ℕ). emits_input x (know_clause x s)) list)) c.emit_added.ensures;
      after_unsat = λ unsat. absurd cc;
    }
