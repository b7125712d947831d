-- The checks depend on the map from ids to clauses.
use Rattle.std.proofs.Common.{◌≡◌, ℕ, suc, ◌<◌, Bool, true, false, cond, not, ◌||◌, eqb, List, [], ◌∷◌, filter, Option, Some, None, is_none, refl, sym, ap, ◌∙◌, arith, eq-eqb}
use mathlib.Core.Path.{fun_ext}
use Rattle.std.specs.List.{list_any, list_all}
use Rattle.std.proofs.lemmas.Bool.{eqb-true, and_parts, or_right, false≢true}
use Rattle.sat_rules.specs.Clauses.{add_lit, clause_true, has, negate, unfalsified}
use Rattle.sat_rules.specs.Named.{Item, negated_set}
use Rattle.sat_rules.proofs.Members.{all_at, all_from, any_at, any_from, has_first, kept_from, kept_in, kept_test}
use Rattle.lrat_rules.specs.Causes.{not_unit}
use Rattle.lrat_rules.specs.Groups.{Group, add_negated, all_met, group_for, is_met, rest_met, without}
use Rattle.lrat_rules.specs.Laws.{RatResolves}
use Rattle.lrat_rules.specs.Lines.{Hint, Line, accepts, adds, by_rat, by_rup, deletes, groups, leading, led, run, step}
use Rattle.lrat_rules.specs.Maps.{MapDecides, MetByMap, SameLits, SameMap, SameNamed, SameStep, ids_once}
use Rattle.lrat_rules.specs.Propagation.{Ending, at_end, by_left, conflict, is_conflict, on_named, open_at, propagate, stuck}
use Rattle.lrat_rules.specs.Stores.{find, formula_store, numbered, without_ids}
use Rattle.lrat_rules.proofs.Flipping.{ends_open, rest_true}
use Rattle.lrat_rules.proofs.Propagating.{led_sound}
use Rattle.lrat_rules.proofs.Stepping.{added}

bool_same : (x y : Bool) → (x ≡ true → y ≡ true) → (y ≡ true → x ≡ true) → x ≡ y
bool_same x y f g = grind arith

-- the map after a deletion
pub found_left : (st : List Item) (is : List ℕ) (k : ℕ) → find (without_ids is st) k ≡ cond (has k is) None (find st k)
found_left [] is k = grind arith
found_left (x ∷ st) is k = grind (arith, eqb-true k x.id, found_left st is k)

-- no id occurs twice
pub below_none : (k n : ℕ) (cs : List (List ℕ)) → k < n → find (numbered n cs) k ≡ None
below_none k n [] h = refl
below_none k n (c ∷ cs) h = grind (arith, below_none k (suc n) cs)

pub numbered_once : (n : ℕ) (cs : List (List ℕ)) → ids_once (numbered n cs) ≡ true
numbered_once n [] = refl
numbered_once n (c ∷ cs) = grind (arith, below_none n (suc n) cs, numbered_once (suc n) cs)

pub left_once : (is : List ℕ) (st : List Item) → ids_once st ≡ true → ids_once (without_ids is st) ≡ true
left_once is [] h = refl
left_once is (x ∷ st) h = grind (arith, found_left st is x.id, left_once is st)

step_once : (st su : List Item) (l : Line) → step st l ≡ Some su → ids_once st ≡ true → ids_once su ≡ true
step_once st su (adds i c hs) h o = let t = added st su i c hs h in rw t.1 (grind (arith, t.0))
step_once st su (deletes is) h o = let e : without_ids is st ≡ su = cc in rw (← e) (left_once is st o)

run_once : (st su : List Item) (ls : List Line) → run st ls ≡ Some su → ids_once st ≡ true → ids_once su ≡ true
run_once st su [] h o = let e : st ≡ su = cc in rw (← e) o
run_once st su (l ∷ ls) h o = grind (arith, λ (r : List Item). step_once st r l, λ (r : List Item). run_once r su ls)

-- the same literals
same_sym : (c d : List ℕ) → SameLits c d → SameLits d c
same_sym c d h l = sym (h l)

same_any : (q : ℕ → Bool) (c d : List ℕ) → SameLits c d → list_any q c ≡ list_any q d
same_any q c d h = bool_same _ _ (one c d h) (one d c (same_sym c d h))
  where
    one : (c d : List ℕ) → SameLits c d → list_any q c ≡ true → list_any q d ≡ true
    one c d h t = let m = any_at q c t in any_from q d m.0 (sym (h m.0) ∙ m.1) m.2

same_kept : (p : ℕ → Bool) (c d : List ℕ) → SameLits c d → SameLits (filter p c) (filter p d)
same_kept p c d h l = bool_same _ _ (one c d h) (one d c (same_sym c d h))
  where
    one : (c d : List ℕ) → SameLits c d → has l (filter p c) ≡ true → has l (filter p d) ≡ true
    one c d h t = kept_from p d l (sym (h l) ∙ kept_in p c l t) (kept_test p c l t)

-- the one literal of a list
only : (l : ℕ) (ls : List ℕ) → list_all (eqb l) ls ≡ true → (m : ℕ) → has m (l ∷ ls) ≡ true → m ≡ l
only l ls h m t = grind (arith, eqb-true, all_at (eqb l) ls m h)

all_one : (l : ℕ) (ls : List ℕ) (k : ℕ) (ks : List ℕ) → SameLits (l ∷ ls) (k ∷ ks) → list_all (eqb l) ls ≡ true → (k ≡ l) × (list_all (eqb k) ks ≡ true)
all_one l ls k ks h t =
    let at : k ≡ l = only l ls t k (h k ∙ has_first k ks) in
    (at, all_from (eqb k) ks (λ m y. eq-eqb k m (at ∙ sym (only l ls t m (h m ∙ or_right (eqb m k) (has m ks) y)))))

left_same : (one : ℕ → Ending) (u v : List ℕ) → SameLits u v → by_left u conflict one ≡ by_left v conflict one
left_same one [] [] h = refl
left_same one [] (k ∷ ks) h = absurd (false≢true (h k ∙ has_first k ks))
left_same one (l ∷ ls) [] h = absurd (false≢true (sym (h l) ∙ has_first l ls))
left_same one (l ∷ ls) (k ∷ ks) h = grind (arith, all_one l ls k ks h, all_one k ks l ls (same_sym (l ∷ ls) (k ∷ ks) h))

-- propagation
go_same : (s : ℕ → Bool) (go ga : (ℕ → Bool) → Ending) → ((r : ℕ → Bool) → go r ≡ ga r) → (u : List ℕ) → by_left u conflict (λ l. go (add_lit l s)) ≡ by_left u conflict (λ l. ga (add_lit l s))
go_same s go ga h [] = refl
go_same s go ga h (l ∷ ls) = ap (λ e. cond (list_all (eqb l) ls) e (stuck not_unit)) (h (add_lit l s))

named_same : (s : ℕ → Bool) (go ga : (ℕ → Bool) → Ending) → ((r : ℕ → Bool) → go r ≡ ga r) → (o q : Option (List ℕ)) → SameNamed o q → on_named o s go ≡ on_named q s ga
named_same s go ga h o q e = grind (
  arith,
  λ (c d : List ℕ) (same : SameLits c d).
      left_same (λ l. go (add_lit l s)) (unfalsified s c) (unfalsified s d) (same_kept (λ m. not (s (negate m))) c d same) ∙ go_same s go ga h (unfalsified s d),
)

propagate_same : (st su : List Item) → SameMap st su → (is : List ℕ) (s : ℕ → Bool) → propagate (find st) s is ≡ propagate (find su) s is
propagate_same st su e [] s = refl
propagate_same st su e (i ∷ is) s = named_same s (λ r. propagate (find st) r is) (λ r. propagate (find su) r is) (propagate_same st su e is) (find st i) (find su i) (e i)

led_same : (st su : List Item) → SameMap st su → (c : List ℕ) (hs : List Hint) → led st c hs ≡ led su c hs
led_same st su e c hs = propagate_same st su e (leading hs) (negated_set c)

rup_same : (st su : List Item) → SameMap st su → (c : List ℕ) (hs : List Hint) → by_rup st c hs ≡ by_rup su c hs
rup_same st su e c hs = ap is_conflict (led_same st su e c hs)

rest_same : (st su : List Item) → SameMap st su → (s : ℕ → Bool) (c d : List ℕ) → SameLits c d → (o : Option (List ℕ)) → rest_met (find st) s c o ≡ rest_met (find su) s d o
rest_same st su e s c d h None = refl
rest_same st su e s c d h (Some is) = cc (same_any s c d h, sets, propagate_same st su e is (add_negated c s))
  where
    sets : add_negated c s ≡ add_negated d s
    sets = fun_ext (λ m. ap (λ b. b || s m) (same_any (λ l. eqb m (negate l)) c d h))

-- clauses with n, by their ids
abbrev AllMet : List Item → (ℕ → Bool) → ℕ → List Group → List Item → Type 0
AllMet st s n gs su = (i : ℕ) (d : List ℕ) → find su i ≡ Some d → has n d ≡ true → rest_met (find st) s (without n d) (group_for i gs) ≡ true

pub met_at : (st : List Item) (s : ℕ → Bool) (n : ℕ) (gs : List Group) (su : List Item) → list_all (is_met st s n gs) su ≡ true → AllMet st s n gs su
met_at st s n gs [] h i d f t = absurd (cc)
met_at st s n gs (x ∷ su) h i d f t = grind (arith, eqb-true i x.id, met_at st s n gs su)

pub met_from : (st : List Item) (s : ℕ → Bool) (n : ℕ) (gs : List Group) (su : List Item) → ids_once su ≡ true → AllMet st s n gs su → list_all (is_met st s n gs) su ≡ true
met_from st s n gs [] o h = refl
met_from st s n gs (x ∷ su) o h =
    let rest = met_from st s n gs su (and_parts (is_none (find su x.id)) (ids_once su) o).1 (λ i d f t. h i d (grind (arith, eqb-true i x.id)) t) in
    grind (arith, rest, h x.id x.lits)

pub met_by_map : MetByMap
met_by_map st s n gs o = (met_at st s n gs st, met_from st s n gs st o)

map_sym : (st su : List Item) → SameMap st su → SameMap su st
map_sym st su e i = grind (arith, e i)

carried : (st su : List Item) → SameMap st su → (s : ℕ → Bool) (n : ℕ) (gs : List Group) → AllMet st s n gs st → AllMet su s n gs su
carried st su e s n gs h i d f t = go (find st i) refl (rw f at (e i))
  where
    go : (o : Option (List ℕ)) → find st i ≡ o → SameNamed o (Some d) → rest_met (find su) s (without n d) (group_for i gs) ≡ true
    go None k same = absurd same
    go (Some c) k same = sym (rest_same st su e s (without n c) (without n d) (same_kept (λ m. not (eqb m n)) c d same) (group_for i gs)) ∙ h i c k (same n ∙ t)

all_met_same : (st su : List Item) → SameMap st su → ids_once st ≡ true → ids_once su ≡ true → (s : ℕ → Bool) (c : List ℕ) (gs : List Group) → all_met st s c gs ≡ all_met su s c gs
all_met_same st su e o q s [] gs = refl
all_met_same st su e o q s (p ∷ ps) gs = bool_same _ _
    (λ h. met_from su s (negate p) gs su q (carried st su e s (negate p) gs (met_at st s (negate p) gs st h)))
    (λ h. met_from st s (negate p) gs st o (carried su st (map_sym st su e) s (negate p) gs (met_at su s (negate p) gs su h)))

end_same : (e : Ending) (t u : (ℕ → Bool) → Bool) → ((s : ℕ → Bool) → t s ≡ u s) → at_end e t ≡ at_end e u
end_same conflict t u h = refl
end_same (open_at s) t u h = h s
end_same (stuck k) t u h = refl

rat_same : (st su : List Item) → SameMap st su → ids_once st ≡ true → ids_once su ≡ true → (c : List ℕ) (hs : List Hint) → by_rat st c hs ≡ by_rat su c hs
rat_same st su e o q c hs = rw (led_same st su e c hs) (end_same (led su c hs) (λ s. all_met st s c (groups hs)) (λ s. all_met su s c (groups hs)) (λ s. all_met_same st su e o q s c (groups hs)))

none_same : (o q : Option (List ℕ)) → SameNamed o q → is_none o ≡ is_none q
none_same o q h = grind arith

add_same : (st su : List Item) → SameMap st su → ids_once st ≡ true → ids_once su ≡ true → (i : ℕ) (c : List ℕ) (hs : List Hint) → accepts st (adds i c hs) ≡ accepts su (adds i c hs)
add_same st su e o q i c hs = cc (none_same (find st i) (find su i) (e i), rup_same st su e c hs, rat_same st su e o q c hs)

-- the map after a line
stored_same : (st su : List Item) → SameMap st su → (i : ℕ) (c d : List ℕ) → SameLits c d → SameMap (record { id = i; lits = c } ∷ st) (record { id = i; lits = d } ∷ su)
stored_same st su e i c d h k = grind (arith, e k)

left_map : (st su : List Item) → SameMap st su → (is : List ℕ) → SameMap (without_ids is st) (without_ids is su)
left_map st su e is k = rw (found_left st is k, found_left su is k) (grind (arith, e k))

step_same : (st su : List Item) → SameMap st su → ids_once st ≡ true → ids_once su ≡ true → (l : Line) → SameStep (step st l) (step su l)
step_same st su e o q (adds i c hs) = grind (arith, add_same st su e o q i c hs, stored_same st su e i c c (λ l. refl))
step_same st su e o q (deletes is) = left_map st su e is

pub map_decides : MapDecides
map_decides = record {
  once = λ cs su ls h. run_once (formula_store cs) su ls h (numbered_once 1 cs);
  same_rup = rup_same;
  same_step = step_same;
  stored = stored_same;
  deleted = found_left;
}

-- each resolvent follows
pub rat_resolves : RatResolves
rat_resolves st p ps hs h i d f t a m = grind (arith, resolvent)
  where
    resolvent : clause_true a (p ∷ ps) ≡ false → clause_true a (without (negate p) d) ≡ true
    resolvent e =
        let s = ends_open a (led st (p ∷ ps) hs) (λ s. all_met st s (p ∷ ps) (groups hs)) (led_sound st a (p ∷ ps) hs m e) h in
        rest_true st a s.0 (without (negate p) d) (group_for i (groups hs)) m s.1 (met_at st s.0 (negate p) (groups hs) st s.2 i d f t)
