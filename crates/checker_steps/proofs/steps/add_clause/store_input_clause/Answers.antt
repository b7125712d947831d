use Rattle.checker_steps.proofs.Common.{common_steps, err_from_is_err_and, Known, state_of}
use Rattle.std.proofs.Common.{◌<◌, List, [], true, false, refl, sym, ◌∙◌, arith, subst}
use Rattle.checker_rules.specs.Store.{id_limit}
use Rattle.checker_steps.proofs.InputLemmas.{accepted-few, emits-new, emits-repeated, emits-tautology, fault-stored, input-new, input-repeated, input-tautology, is_store-next, same-inputs, same-next, told}
use Rattle.checker_steps.proofs.steps.add_clause.store_input_clause.Goals as goal

pub overflow_add-clauses : goal.overflow_add-clauses
unfolding id_limit
overflow_add-clauses c = let room = c.requires.room in omega arith

pub returns-then-tautology : goal.returns-then-tautology
returns-then-tautology c =
    let a = c.args in let s = λ (known : List Known). state_of a.state.now a.hasher.now a.clauses.now known in
    let e = sym c.if-tautology.true ∙ c.requires.tautology in
    record {
      state = λ known. sym (input-tautology a.clause.now (s known) e);
      store = is_store-next a.hasher.now a.clauses.now c.requires.store;
      fault = tt;
      room = λ other. absurd cc;
      inputs = refl;
      emitted = λ known. emits-tautology a.clause.now (s known) e;
    }

pub returns-in_err-stored_id : goal.returns-in_err-stored_id
returns-in_err-stored_id c = grind (arith, common_steps, err_from_is_err_and, fault-stored)

pub repeated-requires : goal.repeated-requires
repeated-requires c =
    let is = c.in_ok-stored_id.ensures.answer [] in subst (λ n. n < id_limit) (sym (same-next is (told is c.in-Duplicate.is).0)) c.requires.room

pub repeated-requires-in-NewlyIrredundant : goal.repeated-requires-in-NewlyIrredundant
repeated-requires-in-NewlyIrredundant c =
    let is = c.in_ok-stored_id.ensures.answer [] in subst (λ n. n < id_limit) (sym (same-next is (told is c.in-NewlyIrredundant.is).0)) c.requires.room

pub returns-in-New : goal.returns-in-New
returns-in-New c =
    let is = c.in_ok-stored_id.ensures.answer in let e = sym c.if-tautology.false ∙ c.requires.tautology in
    record {
      state = λ known. input-new (is known) e (told (is known) c.in-New.is);
      store = c.in_ok-stored_id.ensures.store;
      fault = tt;
      room = λ _. accepted-few c.args.clause.now _ c.requires.room (is []).room;
      inputs = same-inputs (is []);
      emitted = λ known. emits-new (is known) e (told (is known) c.in-New.is);
    }

pub returns-in-Duplicate : goal.returns-in-Duplicate
returns-in-Duplicate c =
    let is = c.in_ok-stored_id.ensures.answer in let e = sym c.if-tautology.false ∙ c.requires.tautology in
    rw (c.repeated.ensures.taken, c.repeated.ensures.answer)
    (record {
      state = λ known. input-repeated (is known) e (told (is known) c.in-Duplicate.is).0;
      store = is_store-next c.args.hasher.now c.store_clause.new.clauses c.in_ok-stored_id.ensures.store;
      fault = tt;
      room = λ _. accepted-few c.args.clause.now _ c.requires.room (is []).room;
      inputs = same-inputs (is []);
      emitted = λ known. emits-repeated (is known) e false (told (is known) c.in-Duplicate.is);
    })

pub returns-in-NewlyIrredundant : goal.returns-in-NewlyIrredundant
returns-in-NewlyIrredundant c =
    let is = c.in_ok-stored_id.ensures.answer in let e = sym c.if-tautology.false ∙ c.requires.tautology in
    rw (c.repeated-in-NewlyIrredundant.ensures.taken, c.repeated-in-NewlyIrredundant.ensures.answer)
    (record {
      state = λ known. input-repeated (is known) e (told (is known) c.in-NewlyIrredundant.is).0;
      store = is_store-next c.args.hasher.now c.store_clause.new.clauses c.in_ok-stored_id.ensures.store;
      fault = tt;
      room = λ _. accepted-few c.args.clause.now _ c.requires.room (is []).room;
      inputs = same-inputs (is []);
      emitted = λ known. emits-repeated (is known) e true (told (is known) c.in-NewlyIrredundant.is);
    })
