use Rattle.checker_steps.proofs.Common.{common_steps, user_var_name, step, both_ran_nil, index_of, cause_of, state_of}
use Rattle.checker_steps.proofs.Common.{ClauseHasher, CheckerState, is_store-known, names-enough}
use Rattle.std.proofs.Common.{[], suc, Some, refl, arith}
use Rattle.checker_steps.specs.Naming.{naming_cause}
use Rattle.checker_steps.proofs.EmissionLemmas.{answers-delivers, unless-stopped, answers-accept, answers-found, emits-refused}
use Rattle.checker_steps.proofs.DeliveryLemmas.{delivered-one}
use Rattle.checker_steps.proofs.NamingLemmas.{emits-name, name-given, name-refused}
use Rattle.checker_steps.proofs.variables.add_user_mapping.Goals as goal

pub returns-in-Some : goal.returns-in-Some
returns-in-Some g c =
    let a = c.args in let x = index_of a.global in let u = index_of a.user_var in let grown = c.ensure_var.new in let known = c.in_ok-ensure_var.ensures.known in
    let t = user_var_name x (Some u) in
    let refused = λ (st : CheckerState) (h : ClauseHasher).
    let s = state_of st h a.clauses.now a.variables.now in let r = state_of st h grown.clauses grown.variables in
    answers-found c.in-Some.cause (naming_cause grown.variables x u) (step s t) r c.in-Some.ensures (λ cause found. name-refused s r x u cause (known.state st h) found) in
    record {
      step = refused;
      store = λ h store. is_store-known (suc x) h _ _ _ _ known store;
      known = known.same;
      delivered = λ st h. ([], emits-refused _ t [] (cause_of c.in-Some.cause) (refused st h).0 refl, both_ran_nil _ _ _ _);
    }

pub set_name-requires-clause-known : goal.set_name-requires-clause-known
set_name-requires-clause-known g c = names-enough (suc (index_of c.args.global)) _ _ _ _ c.in_ok-ensure_var.ensures.known

pub returns-clause-step : goal.returns-clause-step
returns-clause-step g c = grind (arith, common_steps, answers-delivers, answers-accept, name-given)

pub returns-clause-store : goal.returns-clause-store
returns-clause-store g c = λ h store.
    unless-stopped c.emit_user_var.result (is_store-known (suc (index_of c.args.global)) h _ _ _ _ c.in_ok-ensure_var.ensures.known store)

pub returns-clause-delivered : goal.returns-clause-delivered
returns-clause-delivered g c = grind (arith, common_steps, delivered-one, emits-name)
