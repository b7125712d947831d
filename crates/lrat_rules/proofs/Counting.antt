-- Clauses of distinct ids hold a literal as often as it is stored at most, and as often only where they are all that hold it.
use Rattle.std.proofs.Common.{◌≡◌, ℕ, ◌+◌, ◌<◌, ◌≤◌, true, false, not, eqb, List, [], ◌∷◌, Option, Some, None, is_none, refl, ap, arith}
use Rattle.std.proofs.lemmas.Bool.{eqb-true, and_parts, and_from, false≢true, true_from_ne_false}
use Rattle.sat_rules.specs.Clauses.{has}
use Rattle.sat_rules.specs.Named.{Item}
use Rattle.lrat_rules.specs.Counts.{CountsCover, all_once, count_in, count_of, is_holder, uses, uses_by}
use Rattle.lrat_rules.specs.Maps.{ids_once}
use Rattle.lrat_rules.specs.Stores.{find, without_ids}
use Rattle.lrat_rules.proofs.Mapping.{found_left, left_once}

-- ---- a literal in a clause

pub held_counts : (n : ℕ) (c : List ℕ) → has n c ≡ true → 0 < count_of n c
held_counts n [] h = absurd (false≢true h)
held_counts n (l ∷ ls) h = grind (arith, held_counts n ls)

pub not_held_counts : (n : ℕ) (c : List ℕ) → has n c ≡ false → count_of n c ≡ 0
not_held_counts n [] h = refl
not_held_counts n (l ∷ ls) h = grind (arith, not_held_counts n ls)

-- ---- the store without one id

-- one more use at least for each that the clause of the id has
more_uses : (n d : ℕ) (st : List Item) → uses n (without_ids (d ∷ []) st) + count_in n (find st d) ≤ uses n st
more_uses n d [] = omega arith
more_uses n d (x ∷ st) = grind (arith, eqb-true, more_uses n d st)

-- and no more, where no id occurs twice
pub uses_without : (n d : ℕ) (st : List Item) → ids_once st ≡ true → uses n (without_ids (d ∷ []) st) + count_in n (find st d) ≡ uses n st
uses_without n d [] o = refl
uses_without n d (x ∷ st) o = grind (arith, eqb-true, uses_without n d st)

-- another id names what it named
other_found : (d k : ℕ) (st : List Item) → eqb k d ≡ false → find (without_ids (d ∷ []) st) k ≡ find st k
other_found d k st e = grind (arith, found_left st (d ∷ []) k)

others_used : (n d : ℕ) (st : List Item) (ds : List ℕ) → has d ds ≡ false → uses_by n (without_ids (d ∷ []) st) ds ≡ uses_by n st ds
others_used n d st [] a = refl
others_used n d st (k ∷ ds) a = grind (arith, other_found d k st, others_used n d st ds)

-- ---- distinct ids

never_more : (n : ℕ) (ds : List ℕ) (st : List Item) → all_once ds ≡ true → uses_by n st ds ≤ uses n st
never_more n [] st h = omega arith
never_more n (d ∷ ds) st h = grind (arith, others_used n d st ds, never_more n ds (without_ids (d ∷ []) st), more_uses n d st)

pub holder_counts : (n : ℕ) (o : Option (List ℕ)) → is_holder n o ≡ true → 0 < count_in n o
holder_counts n None h = absurd (false≢true h)
holder_counts n (Some c) h = held_counts n c h

pub counts_cover : CountsCover
counts_cover st n ds h = record {
  never_more = never_more n ds st h;
  all_named = λ m i t. true_from_ne_false (has i ds) (λ f.
      let all = never_more n (i ∷ ds) st (and_from (not (has i ds)) (all_once ds) (ap not f) h) in
      let some = holder_counts n (find st i) t in
      absurd (omega arith));
}

-- ---- all that hold a literal

-- no clause holds it
none_uses : (n : ℕ) (st : List Item) → ids_once st ≡ true → ((i : ℕ) → is_holder n (find st i) ≡ true → ⊥) → uses n st ≡ 0
none_uses n [] o h = refl
none_uses n (x ∷ st) o h =
    let rest = none_uses n st (and_parts (is_none (find st x.id)) (ids_once st) o).1 (λ i t. h i (grind (arith, eqb-true i x.id))) in
    grind (arith, rest, h x.id, not_held_counts n x.lits)

-- all that hold it are listed
pub all_uses : (n : ℕ) (ds : List ℕ) (st : List Item) → ids_once st ≡ true → all_once ds ≡ true → ((i : ℕ) → is_holder n (find st i) ≡ true → has i ds ≡ true) → uses n st ≡ uses_by n st ds
all_uses n [] st o u h = none_uses n st o (λ i t. false≢true (h i t))
all_uses n (d ∷ ds) st o u h =
    let rest = all_uses n ds (without_ids (d ∷ []) st) (left_once (d ∷ []) st o) (and_parts (not (has d ds)) (all_once ds) u).1 (λ i t. grind (arith, h i, found_left st (d ∷ []) i)) in
    grind (arith, uses_without n d st o, others_used n d st ds, rest)
