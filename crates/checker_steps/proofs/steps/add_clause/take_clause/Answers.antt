use Rattle.checker_steps.proofs.Common.{common_steps, err_from_is_err_and, emits_input, count_limit, count_of, state_of, stored_list, is_store-known}
use Rattle.std.proofs.Common.{◌≡◌, ◌<◌, true, false, refl, sym, ap, ◌∙◌, subst, arith}
use Rattle.checker_rules.specs.Store.{id_limit}
use Rattle.checker_steps.proofs.InputLemmas.{fault-known, tautology-few}
use Rattle.checker_steps.proofs.steps.add_clause.take_clause.Goals as goal

pub overflow_add-state : goal.overflow_add-state
unfolding id_limit
overflow_add-state c =
    let counted = c.requires.kept.form.inputs_counted in let same = c.in_ok-added.ensures.inputs in let room = c.requires.room in omega arith

pub store_input_clause-requires-clause-store : goal.store_input_clause-requires-clause-store
store_input_clause-requires-clause-store c =
    is_store-known c.var_bound.result c.args.hasher.now c.args.clauses.now c.ensure_vars.new.clauses c.args.variables.now
    c.ensure_vars.new.variables c.in_ok-ensure_vars.ensures c.requires.kept.store

-- what is not stored leaves the state as it was
pub returns-in_err-added-clause-fault : goal.returns-in_err-added-clause-fault
returns-in_err-added-clause-fault c = grind (arith, common_steps, err_from_is_err_and, fault-known)

pub returns-clause-room : goal.returns-clause-room
returns-clause-room c =
    let a = c.args in let s = state_of a.state.now a.hasher.now a.clauses.now a.variables.now in
    let known = rw c.var_bound.ensures at (c.in_ok-ensure_vars.ensures.state a.state.now a.hasher.now) in
    elim a.tautology as (λ b. a.tautology ≡ b → count_of false a.clause.now (stored_list a.clauses.now) < count_limit) [
      | true ↦ λ e. tautology-few a.clause.now s c.requires.kept.form (sym c.requires.tautology ∙ e)
      | false ↦ λ e. subst (λ es. count_of false a.clause.now es < count_limit) (ap (λ t. t.clauses) known) (c.in_ok-added.ensures.room e)
    ] refl

pub returns-clause-emitted : goal.returns-clause-emitted
returns-clause-emitted c =
    c.in_ok-added.ensures.emitted c.ensure_vars.new.variables ∙ ap (emits_input c.args.clause.now) (rw c.var_bound.ensures at (c.in_ok-ensure_vars.ensures.state c.args.state.now c.args.hasher.now))
