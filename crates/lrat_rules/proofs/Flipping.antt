-- A clause that is redundant by its pivot: the flipped assignment makes all stored clauses true, and the clause.
use Rattle.std.proofs.Common.{◌≡◌, ℕ, Bool, true, false, not, eqb, List, [], ◌∷◌, Option, Some, None, refl, ap, ◌∙◌, inl, inr, arith}
use Rattle.std.specs.List.{list_any, list_all}
use Rattle.std.proofs.lemmas.Bool.{eqb-true, eqb-false, or_cases, or_left, false≢true, not-true, true_from_ne_false, or_parts}
use Rattle.sat_rules.specs.Clauses.{Agrees, clause_true, flip, has, lit_true, negate, var_of}
use Rattle.sat_rules.specs.Named.{Item}
use Rattle.sat_rules.proofs.Literals.{flip_here, lit_true-flip, same_var_codes}
use Rattle.sat_rules.proofs.Members.{any_at, any_from, kept_in, kept_test}
use Rattle.lrat_rules.specs.Groups.{Group, add_negated, all_met, group_for, is_met, rest_met, without}
use Rattle.lrat_rules.specs.Laws.{IsModel, flip_pivot}
use Rattle.lrat_rules.specs.Lines.{Hint, by_rat, groups, led}
use Rattle.lrat_rules.specs.Propagation.{Ending, at_end, conflict, is_conflict, open_at, propagate, stuck}
use Rattle.lrat_rules.specs.Stores.{find}
use Rattle.lrat_rules.proofs.Propagating.{any_kept, Sound, agrees_add, led_sound, sound_is_open, propagate_sound}

-- the two literals of a variable
same_var : (m p : ℕ) → var_of m ≡ var_of p → (m ≡ negate p → ⊥) → m ≡ p
same_var m p h n = grind (arith, same_var_codes p m)

-- a flip at its own variable negates
flip_own : (a : ℕ → Bool) (p : ℕ) → lit_true (flip a (var_of p)) p ≡ not (lit_true a p)
flip_own a p = grind (arith, flip_here a (var_of p))

-- a true literal other than the pivot's negation stays true where the false pivot becomes true
stays_true : (a : ℕ → Bool) (p m : ℕ) → lit_true a p ≡ false → (m ≡ negate p → ⊥) → lit_true a m ≡ true → lit_true (flip a (var_of p)) m ≡ true
stays_true a p m f n t = grind (arith, eqb-true, same_var m p, lit_true-flip a (var_of p) m)

-- a true literal beside the pivot's negation keeps the clause true
rest_stays : (a : ℕ → Bool) (p : ℕ) (c : List ℕ) → lit_true a p ≡ false → clause_true a (without (negate p) c) ≡ true → clause_true (flip a (var_of p)) c ≡ true
rest_stays a p c f t =
    let q = λ (m : ℕ). not (eqb m (negate p)) in
    let m = any_at (lit_true a) (without (negate p) c) t in
    let off = not-true _ (kept_test q c m.0 m.1) in
    any_from (lit_true (flip a (var_of p))) c m.0 (kept_in q c m.0 m.1) (stays_true a p m.0 f (eqb-false m.0 (negate p) off) m.2)

-- in a clause without n every literal is another
without_none : (a : ℕ → Bool) (n : ℕ) (c : List ℕ) → has n c ≡ false → clause_true a c ≡ true → clause_true a (without n c) ≡ true
without_none a n c h t =
    let m = any_at (lit_true a) c t in
    any_kept (lit_true a) (λ m. not (eqb m n)) c m.0 m.1 (grind (arith, eqb-true m.0 n, m.1)) m.2

-- what a group shows
pub rest_true : (st : List Item) (a s : ℕ → Bool) (rest : List ℕ) (o : Option (List ℕ)) → IsModel a st → Agrees a s → rest_met (find st) s rest o ≡ true → clause_true a rest ≡ true
rest_true st a s rest None m ag h = absurd (false≢true h)
rest_true st a s rest (Some is) m ag h = elim (or_cases (list_any s rest) (is_conflict (propagate (find st) (add_negated rest s) is)) h) [
  | inl y ↦ let l = any_at s rest y in any_from (lit_true a) rest l.0 l.1 (ag l.0 l.2)
  | inr y ↦ true_from_ne_false (clause_true a rest) (λ f. sound_is_open a (propagate (find st) (add_negated rest s) is) (propagate_sound st a (add_negated rest s) is m (agrees_add a s rest f ag)) y)
]

met_stays : (st : List Item) (a s : ℕ → Bool) (p : ℕ) (gs : List Group) (x : Item) → IsModel a st → Agrees a s → lit_true a p ≡ false →
    is_met st s (negate p) gs x ≡ true → clause_true a x.lits ≡ true → clause_true (flip a (var_of p)) x.lits ≡ true
met_stays st a s p gs x m ag f h t = rest_stays a p x.lits f (grind (arith, without_none a (negate p) x.lits, rest_true st a s (without (negate p) x.lits) (group_for x.id gs) m ag))

-- all of a part of the store
all_stay : (st : List Item) (a s : ℕ → Bool) (p : ℕ) (gs : List Group) → IsModel a st → Agrees a s → lit_true a p ≡ false →
    (su : List Item) → list_all (is_met st s (negate p) gs) su ≡ true → IsModel a su → IsModel (flip a (var_of p)) su
all_stay st a s p gs m ag f [] h t = refl
all_stay st a s p gs m ag f (x ∷ su) h t = grind (arith, met_stays st a s p gs x m ag f, all_stay st a s p gs m ag f su)

pub ends_open : (a : ℕ → Bool) (e : Ending) (test : (ℕ → Bool) → Bool) → Sound a e → at_end e test ≡ true → (s : ℕ → Bool) × Agrees a s × (test s ≡ true)
ends_open a conflict test so h = absurd so
ends_open a (open_at s) test so h = (s, so, h)
ends_open a (stuck k) test so h = absurd (false≢true h)

pub rat_flips : (st : List Item) (c : List ℕ) (hs : List Hint) → by_rat st c hs ≡ true → (a : ℕ → Bool) → IsModel a st →
    clause_true a c ≡ false → (clause_true (flip_pivot a c) c ≡ true) × IsModel (flip_pivot a c) st
rat_flips st c hs h a m f =
    let s = ends_open a (led st c hs) (λ s. all_met st s c (groups hs)) (led_sound st a c hs m f) h in
    go c s.0 s.1 s.2 f
  where
    go : (c : List ℕ) (s : ℕ → Bool) → Agrees a s → all_met st s c (groups hs) ≡ true → clause_true a c ≡ false → (clause_true (flip_pivot a c) c ≡ true) × IsModel (flip_pivot a c) st
    go [] s ag t f = absurd (false≢true t)
    go (p ∷ ps) s ag t f =
        let parts = or_parts (lit_true a p) (clause_true a ps) f in (
          or_left (lit_true (flip a (var_of p)) p) (clause_true (flip a (var_of p)) ps) (flip_own a p ∙ ap not parts.0),
          all_stay st a s p (groups hs) m ag parts.0 st t m,
        )
