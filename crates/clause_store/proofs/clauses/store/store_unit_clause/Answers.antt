use Rattle.std.proofs.Common.{◌≡◌, ◌+◌, ◌/◌, [], ◌∷◌, Bool, true, false, not, set, slice_set, Some, None, Result, Ok, Err, OnOk, refl, ap, ◌∙◌, subst, arith}
use Rattle.std.specs.Bool.{beq}
use Rattle.std.proofs.lemmas.List.{length-set}
use Rattle.std.proofs.lemmas.Result.{on_err_weaker, on_ok_weaker}
use Rattle.sat_rules.specs.Clauses.{is_negative, var_of}
use Rattle.checker_rules.specs.State.{State, same_bool, unit_of}
use Rattle.clause_store.specs.declared.clauses.StoreClauseResult.TheVariants.{Duplicate}
use Rattle.clause_store.specs.StateOf.{id_of_unit, state_of, stored_unit}
use Rattle.clause_store.specs.Store.{Stores, is_stored_unit, unit_for}
use Rattle.clause_store.specs.View.{stored_list}
use Rattle.clause_store.proofs.AnswerLemmas.{answers-new, either_way, unit-conflict, unit-new, unit-stands}
use Rattle.clause_store.proofs.StoreLemmas.{few-short, is_store-units, list_all-set, stored_units-set, unit_is}
use Rattle.clause_store.proofs.clauses.store.store_unit_clause.Goals as goal

-- equality of truth values
same_is : (a b d e : Bool) → beq a b ≡ d → b ≡ e → same_bool a e ≡ d
same_is a b d e h q = grind arith

both_ok : {A E P Q R : Type 0} (res : Result A E) → (P → Q → R) → OnOk res P → OnOk res Q → OnOk res R
both_ok (Ok x) f p q = f p q
both_ok (Err e) f p q = tt

pub returns-in-None-clause-answer : goal.returns-in-None-clause-answer
returns-in-None-clause-answer c h known redundant kept =
    let st = c.args.state.now in let cs = c.args.clauses.now in let l = c.args.lit in let s = state_of st h cs known in let e = c.put_unit.ensures in
    let none : unit_of s.units (var_of l) ≡ None = unit_is _ _ _ _ c.in-None.ensures c.index.ensures.value in
    let u : State = record s { units = set s.units (var_of l) (Some (record { value = not (is_negative l); id = s.next })); next = s.next + 1 } in
    answers-new _ _ _ s _ u e.answer e.exhausted
    (on_ok_weaker c.put_unit.result (λ q. ap (λ x. state_of st h x known) q ∙ ap (λ us. record s { units = us; next = s.next + 1 })
    (stored_units-set cs.unit_clauses (l / 2) (unit_for l cs.next_clause_id))) e.stored)
    (on_err_weaker c.put_unit.result (λ q. ap (λ x. state_of st h x known) q) e.unchanged)
    (cc) (unit-new l _ s (few-short h cs _ kept.filed _ _ refl) none)

pub returns-in-None-clause-store : goal.returns-in-None-clause-store
returns-in-None-clause-store c h kept =
    let cs = c.args.clauses.now in let l = c.args.lit in let res = c.put_unit.result in
    let next = is_store-units h cs (slice_set cs.unit_clauses (l / 2) (Some (unit_for l cs.next_clause_id))) cs.unit_conflict
    (cs.next_clause_id + 1) (omega arith) (list_all-set is_stored_unit cs.unit_clauses (l / 2) (Some (unit_for l cs.next_clause_id))
    refl kept.units) (length-set cs.unit_clauses (l / 2) (Some (unit_for l cs.next_clause_id))) kept in
    either_way res (on_ok_weaker res (λ q. rw q next) c.put_unit.ensures.stored) (on_err_weaker res (λ q. rw q kept) c.put_unit.ensures.unchanged)

pub returns-then-unit-is_positive-clause-answer : goal.returns-then-unit-is_positive-clause-answer
returns-then-unit-is_positive-clause-answer c h known redundant kept =
    let st = c.args.state.now in let cs = c.args.clauses.now in let l = c.args.lit in let s = state_of st h cs known in let u = c.in-Some.unit in
    let here : unit_of s.units (var_of l) ≡ Some (stored_unit u) = unit_is _ _ _ _ c.in-Some.ensures c.index.ensures.value in
    let same : same_bool u.value (not (is_negative l)) ≡ true = same_is _ _ _ _ c.if-unit-is_positive.true c.is_positive.ensures in
    subst (λ n. Stores (l ∷ []) redundant s s n Duplicate) (cc)
    (unit-stands l _ s (few-short h cs _ kept.filed _ _ refl) _ here same)

pub returns-else-unit-is_positive-clause-answer : goal.returns-else-unit-is_positive-clause-answer
returns-else-unit-is_positive-clause-answer c h known redundant kept =
    let st = c.args.state.now in let cs = c.args.clauses.now in let l = c.args.lit in let s = state_of st h cs known in let u =
    c.in-Some.unit in let e = c.put_conflict.ensures in let res = c.put_conflict.result in
    let here : unit_of s.units (var_of l) ≡ Some (stored_unit u) = unit_is cs.unit_clauses (Some u) c.index.result (l / 2) c.in-Some.ensures c.index.ensures.value in
    let other : same_bool u.value (not (is_negative l)) ≡ false = same_is u.value c.is_positive.result false (not (is_negative l)) c.if-unit-is_positive.false c.is_positive.ensures in
    let t : State = record s { unsat = true; conflict = Some (id_of_unit u.id, s.next); next = s.next + 1 } in
    let clauses_are = on_ok_weaker res (λ q. ap (λ x. state_of (record st { unsat = true }) h x known) q ∙ ap
    (λ n. record s { unsat = true; conflict = Some (n, s.next); next = s.next + 1 }) c.global_id-stored.ensures) e.stored in
    answers-new res (l ∷ []) redundant s (state_of c.put_conflict.new.state h c.put_conflict.new.clauses known) t e.answer e.exhausted
    (both_ok res (λ p q. ap (λ x. state_of x h c.put_conflict.new.clauses known) p ∙ q) e.unsat clauses_are)
    (on_err_weaker res (λ q. ap (λ x. state_of c.put_conflict.new.state h x known) q.0 ∙ ap (λ x. state_of x h cs known) q.1) e.unchanged)
    (cc) (unit-conflict l redundant s (few-short h cs (stored_list cs) kept.filed redundant (l ∷ []) refl) (stored_unit u) here other)

pub returns-else-unit-is_positive-clause-store : goal.returns-else-unit-is_positive-clause-store
returns-else-unit-is_positive-clause-store c h kept =
    let cs = c.args.clauses.now in let res = c.put_conflict.result in
    let next = is_store-units h cs cs.unit_clauses (Some (c.global_id-stored.result, cs.next_clause_id)) (cs.next_clause_id + 1) (omega arith) kept.units refl kept in
    either_way res (on_ok_weaker res (λ q. rw q next) c.put_conflict.ensures.stored) (on_err_weaker res (λ q. rw q.0 kept) c.put_conflict.ensures.unchanged)
