use Rattle.checker_steps.proofs.Common.{common_steps, length-set, map-set, forget_var, Known, sample, index_of, state_of, stored_unit, stored_units}
use Rattle.checker_steps.proofs.Common.{Clauses}
use Rattle.std.proofs.Common.{◌≡◌, ℕ, List, set, Option, None, ap, ◌∙◌, arith}
use Rattle.std.specs.Option.{option_map}
use Rattle.clause_store.proofs.StoreLemmas.{is_store-units, list_all-set}
use Rattle.checker_steps.proofs.steps.delete_var.free_var.Goals as goal

pub returns-clause-state : goal.returns-clause-state
returns-clause-state c h =
    let cs = c.args.clauses.now in let known : List Known = c.args.variables.now in let x = index_of c.args.var in
    let s = state_of c.args.state.now h cs known in
    let units : stored_units c.set.new.self ≡ set (stored_units cs.unit_clauses) x None =
    ap stored_units (c.set.ensures ∙ ap (λ i. set cs.unit_clauses i None) c.index.ensures.value) ∙ map-set (option_map stored_unit) cs.unit_clauses x None in
    let free = c.set_mode.ensures ∙ ap (λ (name : Option ℕ). set known x (record { name = name; mode = sample })) c.requires.unnamed in
    let cs' : Clauses = record cs { unit_clauses = c.set.new.self } in
    c.forget_previous_with.ensures h cs' c.set_mode.new.self ∙ (λ i. record s { units = units i; known = free i; previous = forget_var x s.previous })

pub returns-clause-store : goal.returns-clause-store
returns-clause-store c h kept = grind (arith, common_steps, list_all-set, is_store-units, length-set)
