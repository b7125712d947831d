-- The literal on which a clause is unit, by the literals of the clause that are not false.
use Rattle.std.proofs.Common.{arith, ◌≡◌, ℕ, Bool, true, false, cond, not, ◌&&◌, ◌||◌, eqb, List, [], ◌∷◌, Option, Some, None, refl, sym, ap, ◌∙◌}
use Rattle.std.specs.List.{list_all}
use Rattle.std.proofs.lemmas.Bool.{and_parts, eq-eqb, eqb-true, false≢true}
use Rattle.sat_rules.specs.Clauses.{has, is_unit_on, negate, unfalsified}
use Rattle.sat_rules.specs.HintLines.{unit_among}
use Rattle.sat_rules.proofs.HintLineFacts.{finds_unit, found_unit}
use Rattle.lrat_rules.specs.Causes.{not_unit}
use Rattle.lrat_rules.specs.Propagation.{Ending, by_left, conflict, stuck}
use Rattle.clause_table.specs.Lefts.{on_left}
use Rattle.clause_table.specs.declared.values.Left.{Left}
use Rattle.clause_table.specs.declared.values.Left.TheVariants.{More, Nothing, One}

-- a literal is left where it is in the clause and not false
has_left : (s : ℕ → Bool) (c : List ℕ) (l : ℕ) → has l (unfalsified s c) ≡ (has l c && not (s (negate l)))
has_left s [] l = refl
has_left s (m ∷ c) l = grind (arith, has_left s c l, eqb-true l m)

-- no other is left where all others are false
all_left : (s : ℕ → Bool) (c : List ℕ) (l : ℕ) → list_all (eqb l) (unfalsified s c) ≡ list_all (λ m. eqb m l || s (negate m)) c
all_left s [] l = refl
all_left s (m ∷ c) l = grind (arith, all_left s c l, eqb-true l m, eqb-true m l)

unit_by_left : (s : ℕ → Bool) (c : List ℕ) (l : ℕ) → is_unit_on s c l ≡ (has l (unfalsified s c) && (list_all (eqb l) (unfalsified s c) && not (s l)))
unit_by_left s c l = grind (arith, has_left s c l, all_left s c l)

-- one ending for a literal, another one for all others
abbrev only : ℕ → ℕ → Ending
only l k = cond (eqb k l) conflict (stuck not_unit)

-- the literals that are left are this one
one_left : (ls : List ℕ) (l : ℕ) → ((none : Ending) (one : ℕ → Ending) → by_left ls none one ≡ one l) → (has l ls && list_all (eqb l) ls) ≡ true
one_left [] l e = let other : stuck not_unit ≡ conflict = e (stuck not_unit) (λ k. conflict) in absurd cc
one_left (k ∷ ls) l e =
    let same : cond (list_all (eqb k) ls) (only l k) (stuck not_unit) ≡ only l l = e conflict (only l) in
    grind (arith, eq-eqb l l refl, eqb-true k l)

left_one : (ls : List ℕ) (l : ℕ) (none : Ending) (one : ℕ → Ending) → has l ls ≡ true → list_all (eqb l) ls ≡ true → by_left ls none one ≡ one l
left_one [] l none one h a = absurd cc
left_one (k ∷ ls) l none one h a = grind (arith, eqb-true l k)

is_one : (r : Left) (l : ℕ) → ((none : Ending) (one : ℕ → Ending) → one l ≡ on_left r none one) → r ≡ One l
is_one Nothing l e = let other : conflict ≡ stuck not_unit = e (stuck not_unit) (λ k. conflict) in absurd cc
is_one More l e = let other : conflict ≡ stuck not_unit = e (stuck not_unit) (λ k. conflict) in absurd cc
is_one (One k) l e =
    let same : only l l ≡ only l k = e conflict (only l) in
    grind (arith, eq-eqb l l refl, eqb-true k l)

module _ (s : ℕ → Bool) (c : List ℕ) (r : Left) (e : (none : Ending) (one : ℕ → Ending) → by_left (unfalsified s c) none one ≡ on_left r none one) where
  -- one literal is left, and it is not true
  pub finds : (l : ℕ) → r ≡ One l → s l ≡ false → Some l ≡ unit_among s c c
  finds l is free =
      let left = one_left (unfalsified s c) l (λ none one. e none one ∙ ap (λ x. on_left x none one) is) in
      sym (finds_unit s c c l (grind (arith, unit_by_left s c l)) (grind (arith, has_left s c l)))

  -- none is left, or more than one, or it is true
  pub finds_none : ((l : ℕ) → r ≡ One l → s l ≡ true) → None ≡ unit_among s c c
  finds_none taken = go (unit_among s c c) refl
    where
      go : (o : Option ℕ) → unit_among s c c ≡ o → None ≡ o
      go None u = refl
      go (Some l) u =
          let parts = and_parts _ _ (sym (unit_by_left s c l) ∙ found_unit s c c l u) in
          let free = and_parts _ _ parts.1 in
          let is = is_one r l (λ none one. sym (left_one (unfalsified s c) l none one parts.0 free.0) ∙ e none one) in
          absurd (false≢true (sym (ap not (taken l is)) ∙ free.1))
