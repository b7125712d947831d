-- Units by their variables: ids below a bound, and the unit that a recorded conflict is on.
use Rattle.std.proofs.Common.{◌≡◌, ◌⊎◌, ℕ, zero, suc, ◌+◌, true, false, List, [], ◌∷◌, ◌++◌, set, replicate, Option, Some, None, refl, ap, ◌∙◌, arith, inl, inr, eq-eqb}
use Rattle.std.proofs.lemmas.Bool.{or_cases, or_left, or_right, false≢true, eqb-true}
use Rattle.checker_rules.specs.DeleteVar.{is_conflict_on, is_unit_with}
use Rattle.checker_rules.specs.State.{StoredUnit, unit_of}
use Rattle.checker_rules.specs.WellFormed.{conflict_stands, has_unit, is_unit_below}
use Rattle.checker_rules.proofs.PassTest.{any-append}

pub get_set : (us : List (Option StoredUnit)) (x : ℕ) (w : Option StoredUnit) (v : ℕ) → ((v ≡ x) × (unit_of (set us x w) v ≡ w)) ⊎ (unit_of (set us x w) v ≡ unit_of us v)
get_set [] x w v = inr refl
get_set (u ∷ us) zero w zero = inl (refl, refl)
get_set (u ∷ us) zero w (suc v) = inr refl
get_set (u ∷ us) (suc x) w zero = inr refl
get_set (u ∷ us) (suc x) w (suc v) = elim (get_set us x w v) [ inl h ↦ inl (ap suc h.0, h.1) | inr h ↦ inr h ]

-- ids below a bound
pub below_later : (n : ℕ) (u : Option StoredUnit) → is_unit_below n u ≡ true → is_unit_below (n + 1) u ≡ true
below_later n u h = grind arith

pub below_set : (us : List (Option StoredUnit)) (n x : ℕ) (u : Option StoredUnit) → ((v : ℕ) → is_unit_below n (unit_of us v) ≡ true) →
    is_unit_below n u ≡ true → (v : ℕ) → is_unit_below n (unit_of (set us x u) v) ≡ true
below_set us n x u h k v = grind (arith, get_set us x u v, h v)

-- the variable whose unit has an id
pub unit_at : (id : ℕ) (us : List (Option StoredUnit)) → has_unit id us ≡ true → (v : ℕ) × (is_unit_with id (unit_of us v) ≡ true)
unit_at id [] h = absurd (false≢true h)
unit_at id (u ∷ us) h = elim (or_cases (is_unit_with id u) (has_unit id us) h) [ inl k ↦ (0, k) | inr k ↦ let r = unit_at id us k in (suc r.0, r.1) ]

pub unit_from : (id : ℕ) (us : List (Option StoredUnit)) (v : ℕ) → is_unit_with id (unit_of us v) ≡ true → has_unit id us ≡ true
unit_from id [] v h = absurd (false≢true h)
unit_from id (u ∷ us) zero h = or_left (is_unit_with id u) (has_unit id us) h
unit_from id (u ∷ us) (suc v) h = or_right (is_unit_with id u) (has_unit id us) (unit_from id us v h)

-- another unit in place of one without the id
unit_kept : (id : ℕ) (us : List (Option StoredUnit)) (x : ℕ) (w : Option StoredUnit) → is_unit_with id (unit_of us x) ≡ false → has_unit id us ≡ true → has_unit id (set us x w) ≡ true
unit_kept id us x w off h = let r = unit_at id us h in grind (arith, r.1, get_set us x w r.0, unit_from id (set us x w) r.0)

-- the conflict stays: a unit set off it, more variables known, a conflict recorded
pub stands_set : (us : List (Option StoredUnit)) (x : ℕ) (w : Option StoredUnit) (conflict : Option (ℕ × ℕ)) →
    is_conflict_on (unit_of us x) conflict ≡ false → conflict_stands us conflict ≡ true → conflict_stands (set us x w) conflict ≡ true
stands_set us x w conflict off h = grind (arith, λ (id : ℕ). unit_kept id us x w)

pub on_none : (conflict : Option (ℕ × ℕ)) → is_conflict_on None conflict ≡ false
on_none conflict = grind arith

pub stands_more : (us : List (Option StoredUnit)) (n : ℕ) (conflict : Option (ℕ × ℕ)) → conflict_stands us conflict ≡ true → conflict_stands (us ++ replicate n None) conflict ≡ true
stands_more us n None h = refl
stands_more us n (Some pair) h = any-append (is_unit_with pair.0) us (replicate n None) ∙ or_left (has_unit pair.0 us) _ h

pub stands_on : (us : List (Option StoredUnit)) (v : ℕ) (u : StoredUnit) (id : ℕ) → unit_of us v ≡ Some u → conflict_stands us (Some (u.id, id)) ≡ true
stands_on us v u id e = unit_from u.id us v (ap (is_unit_with u.id) e ∙ eq-eqb u.id u.id refl)

pub unit_is : (id : ℕ) (u : Option StoredUnit) → is_unit_with id u ≡ true → (w : StoredUnit) × (u ≡ Some w) × (w.id ≡ id)
unit_is id None h = absurd (false≢true h)
unit_is id (Some u) h = (u, refl, eqb-true u.id id h)
