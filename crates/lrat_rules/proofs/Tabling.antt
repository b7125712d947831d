-- A table decides as the store that it is of.
use Rattle.std.proofs.Common.{◌⊎◌}
use Rattle.std.proofs.Common.{◌≡◌, ℕ, suc, ◌+◌, Bool, true, false, cond, eqb, List, [], ◌∷◌, Option, Some, None, is_none, is_some, refl, ap, ◌∙◌, arith, inl, inr}
use mathlib.Core.Path.{fun_ext}
use Rattle.std.specs.List.{list_all, list_any}
use Rattle.std.proofs.lemmas.Bool.{eqb-true, and_parts, or_cases, false≢true, false_from_ne_true}
use Rattle.std.proofs.lemmas.Option.{none-some}
use Rattle.sat_rules.specs.Clauses.{has, negate}
use Rattle.sat_rules.specs.Named.{Item, negated_set}
use Rattle.lrat_rules.specs.Causes.{Cause, group_fails, group_missing, id_taken}
use Rattle.lrat_rules.specs.Counts.{all_once, count_in, count_of, is_holder, uses, uses_by}
use Rattle.lrat_rules.specs.Groups.{Group, group_for, is_met, rest_met, without}
use Rattle.lrat_rules.specs.Lines.{Line, adds, after, deletes, groups, leading}
use Rattle.lrat_rules.specs.Maps.{ids_once}
use Rattle.lrat_rules.specs.Propagation.{Ending, conflict, open_at, propagate, stuck}
use Rattle.lrat_rules.specs.Refusals.{cause_at, cause_of_line, groups_cause, is_failed, unmet}
use Rattle.lrat_rules.specs.Stores.{find, formula_store, numbered, without_ids}
use Rattle.lrat_rules.specs.Tables.{IsTableOf, Table, TablesDecide, add_id, cause_by_table, drop_all, drop_one, empty_table}
use Rattle.lrat_rules.specs.Tables.{groups_cause_by, met_by_groups, met_cause, missing, no_id, put, put_from, table_after}
use Rattle.lrat_rules.proofs.Counting.{all_uses, counts_cover, held_counts, not_held_counts, uses_without}
use Rattle.lrat_rules.proofs.Mapping.{below_none, found_left, left_once, met_at, met_from, numbered_once}

-- ---- the table after a line

-- what is found among the clauses of a formula, or before them
abbrev found_or : Option (List ℕ) → Option (List ℕ) → Option (List ℕ)
found_or None o = o
found_or (Some c) o = Some c

formula_named : (cs : List (List ℕ)) (n : ℕ) (t : Table) (i : ℕ) → (put_from n cs t).named i ≡ found_or (find (numbered n cs) i) (t.named i)
formula_named [] n t i = refl
formula_named (c ∷ cs) n t i = grind (arith, formula_named cs (suc n) (put n c t) i, below_none i (suc n) cs)

formula_counts : (cs : List (List ℕ)) (n : ℕ) (t : Table) (l : ℕ) → (put_from n cs t).counts l ≡ uses l (numbered n cs) + t.counts l
formula_counts [] n t l = omega arith
formula_counts (c ∷ cs) n t l = let rest = formula_counts cs (suc n) (put n c t) l in omega arith

formula_is : (cs : List (List ℕ)) → IsTableOf (put_from 1 cs empty_table) (formula_store cs)
formula_is cs = record {
  once = numbered_once 1 cs;
  named = λ i. grind (arith, formula_named cs 1 empty_table i);
  counts = λ n. let all = formula_counts cs 1 empty_table n in omega arith;
}

-- one id after the other
without_next : (i : ℕ) (is : List ℕ) (st : List Item) → without_ids (i ∷ is) st ≡ without_ids is (without_ids (i ∷ []) st)
without_next i is [] = refl
without_next i is (x ∷ st) = grind (arith, without_next i is st)

one_dropped : (t : Table) (st : List Item) (i : ℕ) → IsTableOf t st → IsTableOf (drop_one i t) (without_ids (i ∷ []) st)
one_dropped t st i h = record {
  once = left_once (i ∷ []) st h.once;
  named = λ k. grind (arith, h.named k, found_left st (i ∷ []) k);
  counts = λ n. let left = uses_without n i st h.once in let all = h.counts n in let gone = ap (count_in n) (h.named i) in omega arith;
}

all_dropped : (t : Table) (st : List Item) (is : List ℕ) → IsTableOf t st → IsTableOf (drop_all is t) (without_ids is st)
all_dropped t st [] h = rw (all_kept st) h
  where
    all_kept : (su : List Item) → without_ids [] su ≡ su
    all_kept [] = refl
    all_kept (x ∷ su) = cc (all_kept su)
all_dropped t st (i ∷ is) h = rw (without_next i is st) (all_dropped (drop_one i t) (without_ids (i ∷ []) st) is (one_dropped t st i h))

is_after : (t : Table) (st : List Item) → IsTableOf t st → (l : Line) → cause_of_line st l ≡ None → IsTableOf (table_after t l) (after st l)
is_after t st h (adds i c hs) e = record {
  once = grind (arith, e, h.once);
  named = λ k. ap (cond (eqb k i) (Some c)) (h.named k);
  counts = λ n. ap (λ x. count_of n c + x) (h.counts n);
}
is_after t st h (deletes is) e = all_dropped t st is h

-- ---- the groups in turn

module _ (st : List Item) (s : ℕ → Bool) (n : ℕ) where
  -- a clause with n, its group, and that the group does not meet it
  record Fails (seen : ℕ → Bool) (gs : List Group) : Type 0 where
    pub id : ℕ
    pub clause : List ℕ
    pub hints : List ℕ
    pub stored : find st id ≡ Some clause
    pub holds : has n clause ≡ true
    pub unseen : seen id ≡ false
    pub group : group_for id gs ≡ Some hints
    pub unmet : rest_met (find st) s (without n clause) (Some hints) ≡ false

  -- the ids of the clauses with n that groups meet: all that have a group and were not seen before
  record Meets (seen : ℕ → Bool) (gs : List Group) (ds : List ℕ) : Type 0 where
    pub once : all_once ds ≡ true
    pub unseen : (i : ℕ) → has i ds ≡ true → seen i ≡ false
    pub grouped : (i : ℕ) → has i ds ≡ true → is_some (group_for i gs) ≡ true
    pub met : (i : ℕ) (d hints : List ℕ) → find st i ≡ Some d → has n d ≡ true → seen i ≡ false → group_for i gs ≡ Some hints →
        (has i ds ≡ true) × (rest_met (find st) s (without n d) (Some hints) ≡ true)

  -- what an answer says
  abbrev Told : (ℕ → Bool) → ℕ → List Group → Option ℕ → Type 0
  Told seen met gs None = Fails seen gs
  Told seen met gs (Some m) = (ds : List ℕ) × Meets seen gs ds × (m ≡ met + uses_by n st ds)

  -- a group that is passed over, since its id was seen or is of no clause with n, changes nothing
  passed : (seen : ℕ → Bool) (met : ℕ) (g : Group) (gs : List Group) → (seen g.id ≡ true) ⊎ (is_holder n (find st g.id) ≡ false) → (o : Option ℕ) →
      Told seen met gs o → Told seen met (g ∷ gs) o
  passed seen met g gs over None f = record {
    id = f.id;
    clause = f.clause;
    hints = f.hints;
    stored = f.stored;
    holds = f.holds;
    unseen = f.unseen;
    group = grind (arith, over, eqb-true f.id g.id, f.stored, f.holds, f.unseen, f.group);
    unmet = f.unmet;
  }
  passed seen met g gs over (Some m) f = (
    f.0,
    record {
      once = f.1.once;
      unseen = f.1.unseen;
      grouped = λ i t. grind (arith, f.1.grouped i t);
      met = λ i d hints e t u w. f.1.met i d hints e t u (grind (arith, over, eqb-true i g.id, e, t, u, w));
    },
    f.2,
  )

  -- a group that fails
  failed : (seen : ℕ → Bool) (g : Group) (gs : List Group) (d : List ℕ) → find st g.id ≡ Some d → has n d ≡ true → seen g.id ≡ false →
      rest_met (find st) s (without n d) (Some g.hints) ≡ false → Fails seen (g ∷ gs)
  failed seen g gs d e h u q = record { id = g.id; clause = d; hints = g.hints; stored = e; holds = h; unseen = u; group = grind arith; unmet = q }

  -- a candidate that passes is one more
  counted : (seen : ℕ → Bool) (met : ℕ) (g : Group) (gs : List Group) (d : List ℕ) → find st g.id ≡ Some d → rest_met (find st) s (without n d) (Some g.hints) ≡ true → seen g.id ≡ false →
      (o : Option ℕ) → Told (add_id g.id seen) (met + count_of n d) gs o → Told seen met (g ∷ gs) o
  counted seen met g gs d e r u None f = record {
    id = f.id;
    clause = f.clause;
    hints = f.hints;
    stored = f.stored;
    holds = f.holds;
    unseen = grind (arith, f.unseen);
    group = grind (arith, f.unseen, f.group);
    unmet = f.unmet;
  }
  counted seen met g gs d e r u (Some m) f = (
    g.id ∷ f.0,
    record {
      once = grind (arith, f.1.unseen g.id, f.1.once);
      unseen = λ i t. grind (arith, eqb-true i g.id, f.1.unseen i);
      grouped = λ i t. grind (arith, f.1.grouped i);
      met = λ i c hints w t v k. grind (arith, eqb-true i g.id, f.1.met i c hints w t);
    },
    (let total = f.2 in let here = ap (count_in n) e in omega arith),
  )

  -- one more group in front
  tells_more : (g : Group) (gs : List Group) (seen : ℕ → Bool) (met : ℕ) → Told seen met gs (met_by_groups (find st) s n seen met gs) →
      ((k : ℕ) → Told (add_id g.id seen) (met + k) gs (met_by_groups (find st) s n (add_id g.id seen) (met + k) gs)) → Told seen met (g ∷ gs) (met_by_groups (find st) s n seen met (g ∷ gs))
  tells_more g gs seen met pass rest =
      let over : (seen g.id ≡ true) ⊎ (is_holder n (find st g.id) ≡ false) → Told seen met (g ∷ gs) (met_by_groups (find st) s n seen met gs) = λ w. passed seen met g gs w _ pass in
      let more : (d : List ℕ) → find st g.id ≡ Some d → rest_met (find st) s (without n d) (Some g.hints) ≡ true → seen g.id ≡ false →
      Told seen met (g ∷ gs) (met_by_groups (find st) s n (add_id g.id seen) (met + count_of n d) gs) = λ d e r u. counted seen met g gs d e r u _ (rest (count_of n d)) in
      grind (arith, over, more, failed seen g gs, held_counts n, not_held_counts n)

  tells : (gs : List Group) (seen : ℕ → Bool) (met : ℕ) → Told seen met gs (met_by_groups (find st) s n seen met gs)
  tells [] seen met = (
    [],
    record {
      once = refl;
      unseen = λ i t. absurd (false≢true t);
      grouped = λ i t. absurd (false≢true t);
      met = λ i d hints e t u w. absurd (none-some hints w);
    },
    omega arith,
  )
  tells (g ∷ gs) seen met = tells_more g gs seen met (tells gs seen met) (λ k. tells gs (add_id g.id seen) (met + k))

-- ---- what the groups show

-- a stored clause that passes a test
any_stored : (q : Item → Bool) (st : List Item) (i : ℕ) (d : List ℕ) → find st i ≡ Some d → q (record { id = i; lits = d }) ≡ true → list_any q st ≡ true
any_stored q [] i d e t = absurd (none-some d e)
any_stored q (x ∷ st) i d e t = grind (arith, eqb-true i x.id, any_stored q st i d)

-- and where no id occurs twice, one that passes is found
stored_any : (q : Item → Bool) (st : List Item) → ids_once st ≡ true → list_any q st ≡ true → (x : Item) × (find st x.id ≡ Some x.lits) × (q x ≡ true)
stored_any q [] o h = absurd (false≢true h)
stored_any q (x ∷ st) o h = elim (or_cases (q x) (list_any q st) h) [
  | inl y ↦ (x, grind arith, y)
  | inr y ↦ let r = stored_any q st (and_parts (is_none (find st x.id)) (ids_once st) o).1 y in (r.0, grind (arith, eqb-true r.0.id x.id, r.1), r.2)
]

module _ (st : List Item) (o : ids_once st ≡ true) (s : ℕ → Bool) (p : ℕ) (ps : List ℕ) where
  abbrev n : ℕ
  n = negate p

  -- a group fails
  fails_all : (gs : List Group) → Fails st s n no_id gs → list_all (is_met st s n gs) st ≡ false
  fails_all gs f = false_from_ne_true _ (λ y. grind (arith, f.unmet, f.group, met_at st s n gs st y f.id f.clause f.stored f.holds))

  fails_unmet : (gs : List Group) → Fails st s n no_id gs → unmet st s (p ∷ ps) gs ≡ group_fails
  fails_unmet [] f = absurd (none-some f.hints f.group)
  fails_unmet (g ∷ gs) f = let held = any_stored (is_failed st s n (g ∷ gs)) st f.id f.clause f.stored (grind (arith, f.holds, f.group, f.unmet)) in rw held

  -- a group of a listed id meets its clause
  met_listed : (gs : List Group) (ds : List ℕ) → Meets st s n no_id gs ds → (i : ℕ) (d : List ℕ) → find st i ≡ Some d → has n d ≡ true → is_some (group_for i gs) ≡ true →
      (has i ds ≡ true) × (rest_met (find st) s (without n d) (group_for i gs) ≡ true)
  met_listed gs ds m i d e t k = go (group_for i gs) refl k
    where
      go : (q : Option (List ℕ)) → group_for i gs ≡ q → is_some q ≡ true → (has i ds ≡ true) × (rest_met (find st) s (without n d) (group_for i gs) ≡ true)
      go None w y = absurd (false≢true y)
      go (Some hints) w y = let r = m.met i d hints e t refl w in (r.0, rw w r.1)

  -- n is met as often as it is stored
  covers : (gs : List Group) (ds : List ℕ) → Meets st s n no_id gs ds → uses n st ≡ uses_by n st ds → list_all (is_met st s n gs) st ≡ true
  covers gs ds m e = met_from st s n gs st o (λ i d f t.
      (met_listed gs ds m i d f t (m.grouped i ((counts_cover st n ds m.once).all_named (omega arith) i (ap (is_holder n) f ∙ t)))).1)

  -- every clause with n is met, and then as often as it is stored
  covered : (gs : List Group) (ds : List ℕ) → Meets st s n no_id gs ds → list_all (is_met st s n gs) st ≡ true → uses n st ≡ uses_by n st ds
  covered gs ds m all = all_uses n ds st o m.once (λ i t. holder i (find st i) refl t)
    where
      holder : (i : ℕ) (q : Option (List ℕ)) → find st i ≡ q → is_holder n q ≡ true → has i ds ≡ true
      holder i None e t = absurd (false≢true t)
      holder i (Some d) e t = grind (arith, e, t, met_at st s n gs st all i d e t, met_listed gs ds m i d e t)

  -- no group fails
  missing_unmet : (gs : List Group) (ds : List ℕ) → Meets st s n no_id gs ds → unmet st s (p ∷ ps) gs ≡ missing gs
  missing_unmet [] ds m = refl
  missing_unmet (g ∷ gs) ds m = ap (λ b. cond b group_fails group_missing) (false_from_ne_true _ (λ y. fine (stored_any (is_failed st s n (g ∷ gs)) st o y)))
    where
      fine : ((x : Item) × (find st x.id ≡ Some x.lits) × (is_failed st s n (g ∷ gs) x ≡ true)) → ⊥
      fine (x, e, t) = grind (arith, e, t, met_listed (g ∷ gs) ds m x.id x.lits e)

  pub pivot_cause : (gs : List Group) → met_cause (uses n st) gs (met_by_groups (find st) s n no_id 0 gs) ≡ groups_cause st s (p ∷ ps) gs
  pivot_cause gs = go (met_by_groups (find st) s n no_id 0 gs) (tells st s n gs no_id 0)
    where
      go : (q : Option ℕ) → Told st s n no_id 0 gs q → met_cause (uses n st) gs q ≡ cond (list_all (is_met st s n gs) st) None (Some (unmet st s (p ∷ ps) gs))
      go None f = grind (arith, fails_all gs f, fails_unmet gs f)
      go (Some m) (ds, meets, e) = grind (arith, e, covers gs ds meets, covered gs ds meets, missing_unmet gs ds meets)

-- ---- the cause of a line

groups_same : (t : Table) (st : List Item) → IsTableOf t st → (s : ℕ → Bool) (c : List ℕ) (gs : List Group) → groups_cause_by t s c gs ≡ groups_cause st s c gs
groups_same t st h s [] gs = refl
groups_same t st h s (p ∷ ps) gs = let same : t.named ≡ find st = fun_ext h.named in rw (h.counts (negate p), same) (pivot_cause st h.once s p ps gs)

end_same : (e : Ending) (q r : (ℕ → Bool) → Option Cause) → ((s : ℕ → Bool) → q s ≡ r s) → cause_at e q ≡ cause_at e r
end_same conflict q r h = refl
end_same (open_at s) q r h = h s
end_same (stuck k) q r h = refl

cause_same : (t : Table) (st : List Item) → IsTableOf t st → (l : Line) → cause_by_table t l ≡ cause_of_line st l
cause_same t st h (adds i c hs) =
    ap (λ o. cond (is_some o) (Some id_taken) (cause_at (propagate t.named (negated_set c) (leading hs)) (λ s. groups_cause_by t s c (groups hs)))) (h.named i)
    ∙ ap (λ f. cond (is_some (find st i)) (Some id_taken) (cause_at (propagate f (negated_set c) (leading hs)) (λ s. groups_cause_by t s c (groups hs)))) (fun_ext h.named)
    ∙ ap (cond (is_some (find st i)) (Some id_taken)) (end_same (propagate (find st) (negated_set c) (leading hs)) _ _ (λ s. groups_same t st h s c (groups hs)))
cause_same t st h (deletes is) = refl

pub tables_decide : TablesDecide
tables_decide = record { formula = formula_is; cause = cause_same; after = is_after }
