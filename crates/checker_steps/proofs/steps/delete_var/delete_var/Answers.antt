use Rattle.checker_steps.proofs.Common.{err_from_is_err_and, is_store-known}
use Rattle.checker_steps.proofs.Common.{answers-part, answers-refuse, kept-answer, free_var, index_of, state_of, stored_units, listeners_of, StepFault}
use Rattle.std.proofs.Common.{Err, sym, ◌∙◌, refl, Ok, ap, Result}
use Rattle.checker_steps.proofs.EmissionLemmas.{kept-after, quiet-refusal, answers-accept, unless-stopped}
use Rattle.checker_steps.proofs.DeleteVarLemmas.{delete-closed, delete-held, delete-named, delete-unclosed, delivered-dropped, delivered-unclosed, named-is}
use Rattle.checker_steps.proofs.steps.delete_var.delete_var.Goals as goal

pub returns-then-is_some : goal.returns-then-is_some
returns-then-is_some g c =
    let known = c.in_ok-ensure_var.ensures.known in let named = named-is c.get.result _ _ c.get.ensures c.is_some.ensures ∙ c.if-is_some.true in
    let s = answers-refuse _ _ _ _ (delete-named _ _ _ (known.state c.args.ctx.now.checker_state c.args.ctx.now.clause_hasher) named) refl in
    record { step = s; kept = kept-after _ c.requires s.1 (is_store-known _ _ _ _ _ _ known c.requires.store); delivered = quiet-refusal g.P.ProofProcessor g.T.ProofTranscriptProcessor _ _ _ _ s.0 refl }

pub returns-then-is_held : goal.returns-then-is_held
returns-then-is_held g c =
    let known = c.in_ok-ensure_var.ensures.known in let named = named-is c.get.result _ _ c.get.ensures c.is_some.ensures ∙ c.if-is_some.false in
    let store = is_store-known _ _ _ _ _ _ known c.requires.store in let held = sym (c.is_held.ensures _ _ store.counts) ∙ c.if-is_held.true in
    let s = answers-refuse _ _ _ _ (delete-held _ _ _ (known.state c.args.ctx.now.checker_state c.args.ctx.now.clause_hasher) named held) refl in
    record { step = s; kept = kept-after _ c.requires s.1 store; delivered = quiet-refusal g.P.ProofProcessor g.T.ProofTranscriptProcessor _ _ _ _ s.0 refl }

pub returns-in_err-close_conflict_on : goal.returns-in_err-close_conflict_on
returns-in_err-close_conflict_on g c =
    let known = c.in_ok-ensure_var.ensures.known in let named = named-is c.get.result _ _ c.get.ensures c.is_some.ensures ∙ c.if-is_some.false in
    let store = is_store-known _ _ _ _ _ _ known c.requires.store in let held = sym (c.is_held.ensures _ _ store.counts) ∙ c.if-is_held.false in
    let st = c.args.ctx.now.checker_state in let h = c.args.ctx.now.clause_hasher in let closing = c.in_err-close_conflict_on.ensures in
    let e = err_from_is_err_and c.from_residual-in_err-close_conflict_on.result c.from_residual-in_err-close_conflict_on.ensures.1 in
    let r : Result (Unit {0}) StepFault = Err c.in_err-close_conflict_on.field-0.0 in
    let s = answers-part _ _ _ _ (delete-unclosed _ _ _ (known.state st h) named held) (closing.answer st h) in record {
      step = rw (e.1, e.2) s;
      kept = rw (e.1, e.2) (kept-answer r _ _ _ _ _ _ _ _ _ c.requires s (unless-stopped r (closing.store h store)));
      delivered = rw (e.1, e.2) (delivered-unclosed g.P.ProofProcessor g.T.ProofTranscriptProcessor _ _ _ (known.state st h) named held _ _ _ _ (closing.answer st h) (closing.delivered st h));
    }

pub returns-in_err-emit_unit-clause-delivered : goal.returns-in_err-emit_unit-clause-delivered
returns-in_err-emit_unit-clause-delivered g c =
    let known = c.in_ok-ensure_var.ensures.known in let named = named-is c.get.result _ _ c.get.ensures c.is_some.ensures ∙ c.if-is_some.false in
    let store = is_store-known _ _ _ _ _ _ known c.requires.store in let held = sym (c.is_held.ensures _ _ store.counts) ∙ c.if-is_held.false in
    let st = c.args.ctx.now.checker_state in let h = c.args.ctx.now.clause_hasher in let closed = c.in_ok-close_conflict_on.ensures in
    let e = err_from_is_err_and c.from_residual-in_err-emit_unit.result c.from_residual-in_err-emit_unit.ensures.1 in
    rw (e.1, e.2) (delivered-dropped g.P.ProofProcessor g.T.ProofTranscriptProcessor _ _ _ (known.state st h) named held
    (Err c.in_err-emit_unit.field-0.0) (state_of st h c.close_conflict_on.new.clauses c.ensure_var.new.variables) _ _
    (listeners_of c.emit_unit.new.processing) (closed.answer st h).0 (ap stored_units closed.units) refl
    (closed.delivered st h) (c.in_err-emit_unit.ensures.delivered st h))

pub returns : goal.returns
returns g c =
    let known = c.in_ok-ensure_var.ensures.known in let named = named-is c.get.result _ _ c.get.ensures c.is_some.ensures ∙ c.if-is_some.false in
    let store = is_store-known _ _ _ _ _ _ known c.requires.store in let held = sym (c.is_held.ensures _ _ store.counts) ∙ c.if-is_held.false in
    let st = c.args.ctx.now.checker_state in let h = c.args.ctx.now.clause_hasher in let closed = c.in_ok-close_conflict_on.ensures in
    let is = known.state st h in let a = closed.answer st h in
    let s = answers-accept (delete-closed _ _ _ is named held a.0) (c.free_var.ensures.state h ∙ ap (free_var (index_of c.args.var)) a.1) in record {
      step = s;
      kept = kept-after _ c.requires s.1 (c.free_var.ensures.store h (closed.store h store));
      delivered = delivered-dropped g.P.ProofProcessor g.T.ProofTranscriptProcessor _ _ _ is named held (Ok tt)
          (state_of st h c.close_conflict_on.new.clauses c.ensure_var.new.variables) _ _ _ a.0 (ap stored_units closed.units) refl (closed.delivered st h) (c.in_ok-emit_unit.ensures.delivered st h);
    }
