use Rattle.checker_steps.proofs.Common.{common_steps, err_from_is_err_and, Emits, no_name_to_remove, Known, user_var_name, step, both_ran_nil}
use Rattle.checker_steps.proofs.Common.{index_of, state_of, ClauseHasher, CheckerState, is_store-known, answers-refuse}
use Rattle.std.proofs.Common.{[], suc, None, is_none, Err, refl, sym, ap, ◌∙◌, arith}
use Rattle.checker_steps.proofs.EmissionLemmas.{answers-accept, emits-refused}
use Rattle.checker_steps.proofs.DeliveryLemmas.{delivered-one}
use Rattle.checker_steps.proofs.NamingLemmas.{emits-removal, is_none-named, is_none-unnamed, name-removed, remove-refused}
use Rattle.checker_steps.proofs.variables.remove_user_mapping.Goals as goal

pub returns-then-is_none : goal.returns-then-is_none
returns-then-is_none g c =
    let a = c.args in let x = index_of a.global in let known = c.in_ok-ensure_var.ensures.known in
    let unnamed = ap (λ (k : Known). is_none k.name) (sym c.get.ensures) ∙ is_none-unnamed c.get.result.user_var c.if-is_none.ensures in
    let refused = λ (st : CheckerState) (h : ClauseHasher).
    let s = state_of st h a.clauses.now a.variables.now in let r = state_of st h c.ensure_var.new.clauses c.ensure_var.new.variables in
    answers-refuse no_name_to_remove (step s (user_var_name x None)) r r (remove-refused s r x (known.state st h) unnamed) refl in
    record {
      step = refused;
      store = λ h store. is_store-known (suc x) h _ _ _ _ known store;
      known = known.same;
      delivered = λ st h. ([], emits-refused _ (user_var_name x None) [] no_name_to_remove (refused st h).0 refl, both_ran_nil _ _ _ _);
    }

pub returns-in_err-emit_user_var-clause-delivered : goal.returns-in_err-emit_user_var-clause-delivered
returns-in_err-emit_user_var-clause-delivered g c = λ st h.
    let a = c.args in let x = index_of a.global in
    let s = state_of st h a.clauses.now a.variables.now in let r = state_of st h c.ensure_var.new.clauses c.ensure_var.new.variables in
    let named = ap (λ (k : Known). is_none k.name) (sym c.get.ensures) ∙ is_none-named c.get.result.user_var c.if-is_none.ensures in
    let q = err_from_is_err_and c.from_residual-in_err-emit_user_var.result c.from_residual-in_err-emit_user_var.ensures.1 in
    rw (q.1, q.2) (delivered-one g.P.ProofProcessor g.T.ProofTranscriptProcessor {A = Unit {0}} (Emits s (user_var_name x None)) _ _ _ (Err c.in_err-emit_user_var.field-0.0)
    (emits-removal s r x (c.in_ok-ensure_var.ensures.known.state st h) named) c.in_err-emit_user_var.ensures)

pub returns-clause-step : goal.returns-clause-step
returns-clause-step g c = grind (arith, common_steps, is_none-named, answers-accept, name-removed)

pub returns-clause-store : goal.returns-clause-store
returns-clause-store g c = λ h store. is_store-known (suc (index_of c.args.global)) h _ _ _ _ c.in_ok-ensure_var.ensures.known store

pub returns-clause-delivered : goal.returns-clause-delivered
returns-clause-delivered g c = λ st h.
    let a = c.args in let s = state_of st h a.clauses.now a.variables.now in let r = state_of st h c.ensure_var.new.clauses c.ensure_var.new.variables in
    let named = ap (λ (k : Known). is_none k.name) (sym c.get.ensures) ∙ is_none-named c.get.result.user_var c.if-is_none.ensures in
    (_, emits-removal s r (index_of a.global) (c.in_ok-ensure_var.ensures.known.state st h) named, c.in_ok-emit_user_var.ensures)
