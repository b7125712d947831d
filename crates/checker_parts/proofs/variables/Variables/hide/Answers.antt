use Rattle.std.proofs.lemmas.Grind.{common_steps}
use Rattle.std.proofs.Common.{◌∙◌, ◌<◌, ℕ, List, None, Some, ap, arith, false, length, refl, sym}
use Rattle.std.proofs.lemmas.List.{length-set}
use Rattle.sat_formula.specs.Vars.{indexes_of}
use Rattle.checker_rules.specs.State.{Known, hide}
use Rattle.checker_rules.specs.Transcript.{known_at}
use Rattle.checker_parts.specs.Variables.{known_by}
use Rattle.checker_parts.proofs.Columns.{columns_hidden, within, known_by-both}
use Rattle.checker_parts.proofs.Marks.{marked_same, marked_unnamed, name-in_range}
use Rattle.checker_parts.proofs.variables.Variables.hide.Goals as goal

pub index_mut-requires : goal.index_mut-requires
index_mut-requires c = omega (arith, within _ _ _ _ _ _ c.self.invariant c.self.view_is c.index-index.ensures.value c.requires, c.self.inside.names.ok.0)

pub index_mut-requires-2 : goal.index_mut-requires-2
index_mut-requires-2 c = omega (arith, within _ _ _ _ _ _ c.self.invariant c.self.view_is c.index-index.ensures.value c.requires, c.self.invariant.modes, c.self.inside.modes.ok.0)

pub index_mut-requires-in-Some : goal.index_mut-requires-in-Some
index_mut-requires-in-Some c =
    let ns = c.self.inside.names.items in
    let ms = c.self.inside.modes.items in
    let place : c.index-index.result < length (known_by ns ms) = omega (arith, ap length c.self.view_is, c.index-index.ensures.value, c.requires) in
    let named = ap (λ (ks : List Known). (known_at ks c.index-index.result).name) c.self.view_is ∙ sym c.name-name.ensures ∙ ap indexes_of
    c.in-Some.is ∙ ap (λ (n : ℕ). Some n) (sym c.index.ensures.value) in
    omega (arith, name-in_range (known_by ns ms) c.self.inside.taken.items c.index-index.result c.index.result c.self.invariant.marked place named, c.self.inside.taken.ok.0)

pub invariant_of-self : goal.invariant_of-self
invariant_of-self c =
    let ns = c.self.inside.names.items in
    let ms = c.self.inside.modes.items in
    let ts = c.self.inside.taken.items in
    let place : c.index-index.result < length (known_by ns ms) = omega (arith, ap length c.self.view_is, c.index-index.ensures.value, c.requires) in
    let named = ap (λ (ks : List Known). (known_at ks c.index-index.result).name) c.self.view_is ∙ sym c.name-name.ensures ∙ ap indexes_of
    c.in-Some.is ∙ ap (λ (n : ℕ). Some n) (sym c.index.ensures.value) in
    columns_hidden ns ms ts _ _ _ refl c.self.invariant (length-set ts c.index.result false)
    (marked_unnamed (known_by ns ms) ts c.index-index.result c.index.result (record { name = None; mode = hide }) c.self.invariant.marked place
    (name-in_range (known_by ns ms) ts c.index-index.result c.index.result c.self.invariant.marked place named) named refl)

pub invariant_of-self-in_default : goal.invariant_of-self-in_default
invariant_of-self-in_default c =
    let ns = c.self.inside.names.items in
    let ms = c.self.inside.modes.items in
    let ts = c.self.inside.taken.items in
    let place : c.index-index.result < length (known_by ns ms) = omega (arith, ap length c.self.view_is, c.index-index.ensures.value, c.requires) in
    columns_hidden ns ms ts ts _ _ refl c.self.invariant refl
    (marked_same (known_by ns ms) ts c.index-index.result (record { name = None; mode = hide }) c.self.invariant.marked place
    (sym (ap (λ (ks : List Known). (known_at ks c.index-index.result).name) c.self.view_is ∙ sym c.name-name.ensures ∙ ap indexes_of c.in_default.is)))

pub returns-in-Some : goal.returns-in-Some
returns-in-Some c = grind (arith, common_steps, known_by-both)

pub returns-in_default : goal.returns-in_default
returns-in_default c = grind (arith, common_steps, known_by-both)
