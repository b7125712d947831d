-- A clause of a bucket as a stored one, and one that was found in its place.
use Rattle.std.proofs.Common.{◌≡◌, ℕ, suc, ◌<◌, Bool, true, false, List, ◌++◌, length, get_or, take, drop, set, map, Some, arith, ◌+◌, [], ◌∷◌, Option, None, All, ◌∙◌}
use Rattle.std.specs.List.{list_all}
use Rattle.std.proofs.lemmas.List.{drop-map, map-append, map-set, take-map}
use Rattle.std.proofs.Math.ListN.{get_or-map, length-map}
use Rattle.std.proofs.lemmas.List.Elements.{All-append, All-drop, All-set, All-take}
use Rattle.std.proofs.lemmas.List.Folds.{list_any-append}
use Rattle.std.proofs.lemmas.Bool.{or_from}
use Rattle.checker_rules.specs.Canonical.{same_list}
use Rattle.checker_rules.specs.Buckets.{remaining}
use Rattle.checker_rules.specs.Store.{count_limit, count_of, id_among, is_gone, is_stored, lower, raise}
use Rattle.checker_rules.specs.WellFormed.{are_apart}
use Rattle.clause_store.specs.declared.clauses.Clause.{Clause}
use Rattle.clause_store.specs.Buckets.{copies_of, is_of, raised}
use Rattle.clause_store.specs.Found.{found_in}
use Rattle.clause_store.specs.Lowered.{IsLeft, left_of, lowered, IsLoweredIn}
use Rattle.clause_store.specs.Store.{is_whole}
use Rattle.clause_store.specs.View.{stored_of}
use Rattle.clause_store.specs.Crowds.{IsPlaced, standing}
use Rattle.clause_store.specs.Lits.{IsWithin}
use Rattle.clause_store.proofs.FoundLemmas.{before-at, count_of-at, id_among-at, is_stored-at, lower-at, raise-at, remaining-gone, remaining-set}
use Rattle.clause_store.proofs.CrowdLemmas.{rank, standing-left, standing-more, standing-set, stands-at, stands-within}

pub count_limit-some : 0 < count_limit
unfolding count_limit
count_limit-some = omega arith

module _ (buffer c : List ℕ) (cs : List Clause) where
  -- the clause d with these literals is at i
  module _ (i : ℕ) (d : Clause) (w : i < length cs) (here : d ≡ get_or cs i d) (is : is_of buffer c d ≡ true) (a : are_apart (map (stored_of buffer) cs) ≡ true) where
    at : (k : ℕ) → get_or (map (stored_of buffer) cs) k (stored_of buffer d) ≡ stored_of buffer (get_or cs k d)
    at k = get_or-map _ cs k d

    within : i < length (map (stored_of buffer) cs)
    within = omega (arith, length-map cs (stored_of buffer), w)

    stands : stored_of buffer d ≡ get_or (map (stored_of buffer) cs) i (stored_of buffer d)
    stands = cc (at i)

    pub same : same_list (stored_of buffer d).lits c ≡ true
    same = is

    before : (k : ℕ) → k < i → same_list (get_or (map (stored_of buffer) cs) k (stored_of buffer d)).lits c ≡ false
    before = before-at c (stored_of buffer d) same (map (stored_of buffer) cs) i within stands a

    pub found_in-place : found_in c (map (stored_of buffer) cs) ≡ Some (d.id, d.irredundant)
    found_in-place =
        let e = stored_of buffer d in let es = map (stored_of buffer) cs in
        cc (is_stored-at c e same es i within stands, id_among-at c e same es i within stands before, count_of-at c e same false es i within stands before)

    raised_same : (r : Bool) → stored_of buffer (raised r d) ≡ raise r c (stored_of buffer d)
    raised_same r = grind (arith, same)

    pub count_of-place : (r : Bool) → count_of r c (map (stored_of buffer) cs) ≡ copies_of r d
    count_of-place r = count_of-at c _ same r _ i within stands before

    pub is_stored-place : is_stored c (map (stored_of buffer) cs) ≡ true
    is_stored-place = is_stored-at c _ same _ i within stands

    pub id_among-place : id_among c (map (stored_of buffer) cs) ≡ d.id
    id_among-place = id_among-at c _ same _ i within stands before

    -- one copy less, which may be the last
    lowered_same : (r : Bool) → stored_of buffer (lowered r d) ≡ lower r c (stored_of buffer d)
    lowered_same r = grind (arith, same)

    lowered_at : (r : Bool) →
        remaining (map (lower r c) (map (stored_of buffer) cs)) ≡
        remaining (set (map (stored_of buffer) cs) i (stored_of buffer (lowered r d)))
    lowered_at r =
        let e = stored_of buffer d in let es = map (stored_of buffer) cs in
        cc (lower-at c e same r es i within stands before a, lowered_same r)

    pub lowered-place : (r : Bool) (left : Clause) → left ≡ lowered r d → is_gone (stored_of buffer left) ≡ false →
        list_all is_whole (map (stored_of buffer) cs) ≡ true →
        map (stored_of buffer) (set cs i left) ≡ remaining (map (lower r c) (map (stored_of buffer) cs))
    lowered-place r left e g full =
        let es = map (stored_of buffer) cs in let x = stored_of buffer left in
        cc (map-set (stored_of buffer) cs i left, lowered_at r, remaining-set x es i g full)

    pub removed-place : (r : Bool) (left : Clause) → left ≡ lowered r d → is_gone (stored_of buffer left) ≡ true →
        list_all is_whole (map (stored_of buffer) cs) ≡ true →
        map (stored_of buffer) (take i cs ++ drop (suc i) cs) ≡ remaining (map (lower r c) (map (stored_of buffer) cs))
    removed-place r left e g full =
        let es = map (stored_of buffer) cs in let x = stored_of buffer left in
        cc (map-append (stored_of buffer) (take i cs) (drop (suc i) cs), take-map (stored_of buffer) i cs, drop-map (stored_of buffer) (suc i) cs, lowered_at r, remaining-gone x es i within g full)

    pub left-place : (r : Bool) → 0 < copies_of r d → IsLeft r c (map (stored_of buffer) cs) (left_of (lowered r d))
    left-place r had = record {
      copy = rw (count_of-place r) had;
      id = grind (arith, id_among-place);
      irredundant = grind (arith, count_of-place false);
      redundants = grind (arith, count_of-place true);
    }

    pub raised-place : (r : Bool) → map (stored_of buffer) (set cs i (raised r d)) ≡ map (raise r c) (map (stored_of buffer) cs)
    raised-place r =
        let e = stored_of buffer d in let es = map (stored_of buffer) cs in
        cc (map-set (stored_of buffer) cs i (raised r d), raised_same r, raise-at c e same r es i within stands before a)

pub raised-within : (b : List ℕ) (r : Bool) (d : Clause) → IsWithin d.lits b → IsWithin (raised r d).lits b
raised-within b r d h = grind arith

pub lowered-within : (b : List ℕ) (r : Bool) (d : Clause) → IsWithin d.lits b → IsWithin (lowered r d).lits b
lowered-within b r d h = grind arith

module _ (buffer ls : List ℕ) (ps : List (Option Clause)) (i : ℕ) (d : Clause) (p : IsPlaced buffer ls ps i d)
    (a : are_apart (map (stored_of buffer) (standing ps)) ≡ true) where
  w : rank ps i < length (standing ps)
  w = stands-within d ps i p.within p.here

  pub placed-found : found_in ls (map (stored_of buffer) (standing ps)) ≡ Some (d.id, d.irredundant)
  placed-found = found_in-place buffer ls (standing ps) (rank ps i) d w (stands-at d ps i p.within p.here) p.same a

  pub placed-count : (r : Bool) → count_of r ls (map (stored_of buffer) (standing ps)) ≡ copies_of r d
  placed-count r = count_of-place buffer ls (standing ps) (rank ps i) d w (stands-at d ps i p.within p.here) p.same a r

  pub placed-stored : is_stored ls (map (stored_of buffer) (standing ps)) ≡ true
  placed-stored = is_stored-place buffer ls (standing ps) (rank ps i) d w (stands-at d ps i p.within p.here) p.same a

  pub placed-within : (e : Clause) → All (λ c. IsWithin c.lits buffer) (standing ps) → IsWithin e.lits buffer → All (λ c. IsWithin c.lits buffer) (standing (set ps i (Some e)))
  placed-within e all here = rw (standing-set d e ps i p.within p.here) (All-set (λ c. IsWithin c.lits buffer) (standing ps) (rank ps i) e here all)

  -- a copy more
  pub placed-raised : (r : Bool) → map (stored_of buffer) (standing (set ps i (Some (raised r d)))) ≡ map (raise r ls) (map (stored_of buffer) (standing ps))
  placed-raised r =
      cc (standing-set d (raised r d) ps i p.within p.here, raised-place buffer ls (standing ps) (rank ps i) d w (stands-at d ps i p.within p.here) p.same a r)

  -- a copy less, which was not the last, or was
  module _ (r : Bool) (left : Clause) (is : left ≡ lowered r d) (had : 0 < copies_of r d) (all : All (λ c. IsWithin c.lits buffer) (standing ps))
      (full : list_all is_whole (map (stored_of buffer) (standing ps)) ≡ true) where
    is_left : IsLeft r ls (map (stored_of buffer) (standing ps)) (left_of left)
    is_left = rw is (left-place buffer ls (standing ps) (rank ps i) d w (stands-at d ps i p.within p.here) p.same a r had)

    pub lowered-stays : is_gone (stored_of buffer left) ≡ false → IsWithin left.lits buffer → IsLoweredIn buffer r ls (standing ps) (standing (set ps i (Some left))) (left_of left)
    lowered-stays g inside = record {
      here = cc (standing-set d left ps i p.within p.here, lowered-place buffer ls (standing ps) (rank ps i) d w (stands-at d ps i p.within p.here) p.same a r left is g full);
      within = placed-within left all inside;
      is_left = is_left;
    }

    pub lowered-goes : is_gone (stored_of buffer left) ≡ true → IsLoweredIn buffer r ls (standing ps) (standing (set ps i None)) (left_of left)
    lowered-goes g =
        let P : Clause → Type 0 = λ c. IsWithin c.lits buffer in let cs = standing ps in let j = rank ps i in
        record {
          here = cc (standing-left d ps i p.within p.here, removed-place buffer ls cs j d w (stands-at d ps i p.within p.here) p.same a r left is g full);
          within = rw (standing-left d ps i p.within p.here) (All-append P (take j cs) (drop (suc j) cs) (All-take P j cs all) (All-drop P (suc j) cs all));
          is_left = is_left;
        }

-- one place more without these literals
pub absent-more : (buffer ls : List ℕ) (ps : List (Option Clause)) (i : ℕ) (p : Option Clause) → i < length ps → p ≡ get_or ps i p →
    is_stored ls (map (stored_of buffer) (standing (p ∷ []))) ≡ false → is_stored ls (map (stored_of buffer) (standing (take i ps))) ≡ false →
    is_stored ls (map (stored_of buffer) (standing (take (i + 1) ps))) ≡ false
absent-more buffer ls ps i p less here none before =
    let es = map (stored_of buffer) (standing (take i ps)) in let fs = map (stored_of buffer) (standing (p ∷ [])) in
    rw (standing-more ps i p less here, map-append (stored_of buffer) (standing (take i ps)) (standing (p ∷ [])))
    (list_any-append (λ e. same_list e.lits ls) es fs ∙ or_from _ _ before none)

pub absent-one : (buffer ls : List ℕ) (d : Clause) → is_of buffer ls d ≡ false → is_stored ls (map (stored_of buffer) (standing (Some d ∷ []))) ≡ false
absent-one buffer ls d none = cc (none)
