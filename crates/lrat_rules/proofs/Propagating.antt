-- Propagation is sound: whoever agrees with the set and makes all stored clauses true agrees with what follows.
use Rattle.std.proofs.Common.{◌≡◌, ℕ, Bool, true, false, not, eqb, List, [], ◌∷◌, filter, Option, Some, None, sym, subst, inl, inr, arith}
use Rattle.std.specs.List.{list_all, list_any}
use Rattle.std.proofs.lemmas.Bool.{eqb-true, or_cases, false≢true, cond_both, true_from_ne_false}
use Rattle.sat_rules.specs.Clauses.{Agrees, add_lit, clause_true, has, lit_true, negate, unfalsified}
use Rattle.sat_rules.specs.Named.{Item, negated_set}
use Rattle.sat_rules.proofs.Chains.{agrees_more, lit_true-negate}
use Rattle.sat_rules.proofs.Members.{all_at, any_at, any_from, kept_from}
use Rattle.lrat_rules.specs.Causes.{not_unit}
use Rattle.lrat_rules.specs.Groups.{add_negated}
use Rattle.lrat_rules.specs.Laws.{IsModel}
use Rattle.lrat_rules.specs.Lines.{Hint, by_rup, leading, led}
use Rattle.lrat_rules.specs.Propagation.{Ending, by_left, conflict, is_conflict, on_named, open_at, propagate, stuck}
use Rattle.lrat_rules.specs.Stores.{find}
use Rattle.sat_rules.proofs.HintLineFacts.{agrees_negated}

-- what an ending says of an assignment
abbrev pub Sound : (ℕ → Bool) → Ending → Type 0
Sound a conflict = ⊥
Sound a (open_at s) = Agrees a s
Sound a (stuck k) = Unit {0}

abbrev TrueAt : (ℕ → Bool) → Option (List ℕ) → Type 0
TrueAt a None = Unit {0}
TrueAt a (Some c) = clause_true a c ≡ true

found_true : (st : List Item) (a : ℕ → Bool) (i : ℕ) → IsModel a st → TrueAt a (find st i)
found_true [] a i m = tt
found_true (x ∷ st) a i m = grind (arith, found_true st a i)

-- a true literal is not false in the set
not_false : (s a : ℕ → Bool) (m : ℕ) → Agrees a s → lit_true a m ≡ true → not (s (negate m)) ≡ true
not_false s a m ag t = grind (arith, lit_true-negate a m, ag (negate m))

-- a test that some kept element passes
pub any_kept : (q p : ℕ → Bool) (c : List ℕ) (l : ℕ) → has l c ≡ true → p l ≡ true → q l ≡ true → list_any q (filter p c) ≡ true
any_kept q p c l h t y = any_from q (filter p c) l (kept_from p c l h t) y

left_true : (s a : ℕ → Bool) (c : List ℕ) → Agrees a s → clause_true a c ≡ true → clause_true a (unfalsified s c) ≡ true
left_true s a c ag t =
    let m = any_at (lit_true a) c t in
    any_kept (lit_true a) (λ m. not (s (negate m))) c m.0 m.1 (not_false s a m.0 ag m.2) m.2

one_true : (a : ℕ → Bool) (l : ℕ) (ls : List ℕ) → list_all (eqb l) ls ≡ true → clause_true a (l ∷ ls) ≡ true → lit_true a l ≡ true
one_true a l ls same t = elim (or_cases (lit_true a l) (clause_true a ls) t) [
  | inl now ↦ now
  | inr later ↦ let m = any_at (lit_true a) ls later in subst (λ x. lit_true a x ≡ true) (sym (eqb-true l m.0 (all_at (eqb l) ls m.0 same m.1))) m.2
]

left_sound : (s a : ℕ → Bool) (go : (ℕ → Bool) → Ending) → Agrees a s → ((r : ℕ → Bool) → Agrees a r → Sound a (go r)) → (u : List ℕ) →
    clause_true a u ≡ true → Sound a (by_left u conflict (λ l. go (add_lit l s)))
left_sound s a go ag k [] t = false≢true t
left_sound s a go ag k (l ∷ ls) t = cond_both (list_all (eqb l) ls) (go (add_lit l s)) (stuck not_unit) (Sound a) (λ e. k (add_lit l s) (agrees_more s a l ag (one_true a l ls e t))) (λ e. tt)

named_sound : (s a : ℕ → Bool) (go : (ℕ → Bool) → Ending) → Agrees a s → ((r : ℕ → Bool) → Agrees a r → Sound a (go r)) → (o : Option (List ℕ)) → TrueAt a o → Sound a (on_named o s go)
named_sound s a go ag k None t = tt
named_sound s a go ag k (Some c) t = left_sound s a go ag k (unfalsified s c) (left_true s a c ag t)

pub propagate_sound : (st : List Item) (a s : ℕ → Bool) (is : List ℕ) → IsModel a st → Agrees a s → Sound a (propagate (find st) s is)
propagate_sound st a s [] m ag = ag
propagate_sound st a s (i ∷ is) m ag = named_sound s a (λ r. propagate (find st) r is) ag (λ r g. propagate_sound st a r is m g) (find st i) (found_true st a i m)

pub sound_is_open : (a : ℕ → Bool) (e : Ending) → Sound a e → is_conflict e ≡ true → ⊥
sound_is_open a conflict s h = s
sound_is_open a (open_at r) s h = false≢true h
sound_is_open a (stuck k) s h = false≢true h

pub agrees_add : (a s : ℕ → Bool) (c : List ℕ) → clause_true a c ≡ false → Agrees a s → Agrees a (add_negated c s)
agrees_add a s c f ag m h = grind (arith, agrees_negated a c f m, ag m)

-- where the leading hints of a false clause lead
pub led_sound : (st : List Item) (a : ℕ → Bool) (c : List ℕ) (hs : List Hint) → IsModel a st → clause_true a c ≡ false → Sound a (led st c hs)
led_sound st a c hs m f = propagate_sound st a (negated_set c) (leading hs) m (agrees_negated a c f)

pub rup_sound : (st : List Item) (c : List ℕ) (hs : List Hint) → by_rup st c hs ≡ true → (a : ℕ → Bool) → IsModel a st → clause_true a c ≡ true
rup_sound st c hs h a m = true_from_ne_false (clause_true a c) (λ f. sound_is_open a (led st c hs) (led_sound st a c hs m f) h)
