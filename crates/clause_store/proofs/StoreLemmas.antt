-- The stored clauses through changes of their buckets.
use Rattle.std.proofs.Common.{◌≡◌, ℕ, zero, suc, ◌<◌, ◌≤◌, Bool, true, false, eqb, List, [], ◌∷◌, length, set, Option, Some, arith}
use Rattle.std.specs.List.{list_all}
use Rattle.std.specs.Option.{option_map}
use Rattle.std.proofs.lemmas.List.{map-set}
use Rattle.checker_rules.specs.DeleteClause.{is_short}
use Rattle.checker_rules.specs.State.{Stored, unit_of}
use Rattle.checker_rules.specs.Store.{count_limit, count_of}
use Rattle.checker_rules.specs.WellFormed.{are_apart, ids_rise}
use Rattle.checker_rules.proofs.Buckets.{buckets_serve}
use Rattle.checker_rules.proofs.Entries.{apart_filter}
use Rattle.clause_store.specs.declared.clauses.Clauses.{Clauses}
use Rattle.clause_store.specs.declared.clauses.units.UnitClause.{UnitClause}
use Rattle.clause_store.specs.declared.hash.ClauseHasher.{ClauseHasher}
use Rattle.clause_store.specs.Counts.{AreCounts}
use Rattle.clause_store.specs.Found.{found_in}
use Rattle.clause_store.specs.StateOf.{hash_of, stored_unit, stored_units}
use Rattle.clause_store.specs.Store.{IsIndexed, IsStore, is_stored_unit}
use Rattle.clause_store.specs.Units.{unit_at}
use Rattle.clause_store.specs.View.{stored_at, stored_list}
use Rattle.clause_store.proofs.AnswerLemmas.{is_stored-short}
use Rattle.clause_store.proofs.BucketLemmas.{count_limit-some}
use Rattle.clause_store.proofs.FoundLemmas.{count_of-absent}
use Rattle.clause_store.proofs.UnitsLemmas.{unit_of-stored_units}

module _ (h : ClauseHasher) (cs : Clauses) (es : List Stored) (f : IsIndexed h cs es) where
  -- a bucket answers for all
  pub count_of-bucket : (r : Bool) (c : List ℕ) → count_of r c (stored_at cs (hash_of h c)) ≡ count_of r c es
  count_of-bucket r c = cc (f.bucketed (hash_of h c), (buckets_serve (hash_of h) es).count r c)

  pub found_in-bucket : (c : List ℕ) → found_in c (stored_at cs (hash_of h c)) ≡ found_in c es
  found_in-bucket c =
      let serve = buckets_serve (hash_of h) es in
      cc (f.bucketed (hash_of h c), serve.look_up c, serve.id c, serve.count false c)

  pub are_apart-bucket : (k : ℕ) → are_apart (stored_at cs k) ≡ true
  are_apart-bucket k = cc (f.bucketed k, apart_filter (λ e. eqb (hash_of h e.lits) k) es f.apart)

  -- no copy of a short clause is counted
  pub few-short : (r : Bool) (c : List ℕ) → is_short c ≡ true → count_of r c es < count_limit
  few-short r c short = rw (count_of-absent c r es (is_stored-short c es short f.whole)) count_limit-some

ids_rise-more : (a n m : ℕ) (es : List Stored) → n ≤ m → ids_rise a es n ≡ true → ids_rise a es m ≡ true
ids_rise-more a n m [] le h = grind (arith, le, h)
ids_rise-more a n m (e ∷ es) le h = grind (arith, ids_rise-more (suc e.id) n m es le)

-- other units and a later id
pub is_store-units : (h : ClauseHasher) (cs : Clauses) (us : List (Option UnitClause)) (conflict : Option (ℕ × ℕ)) (n : ℕ) →
    cs.next_clause_id ≤ n → list_all is_stored_unit us ≡ true → length us ≡ length cs.unit_clauses → IsStore h cs →
    IsStore h (record cs { unit_clauses = us; unit_conflict = conflict; next_clause_id = n })
is_store-units h cs us conflict n le units long s =
    let rise = ids_rise-more 0 cs.next_clause_id n (stored_list cs) le s.filed.rise in
    let counts : AreCounts cs.lit_counts (length us) (stored_list cs) = rw long s.counts in
    assumption

-- one more value is a stored unit's
pub list_all-set : {X : Type 0} (p : X → Bool) (xs : List X) (i : ℕ) (y : X) → p y ≡ true → list_all p xs ≡ true → list_all p (set xs i y) ≡ true
list_all-set p [] i y h k = k
list_all-set p (x ∷ xs) zero y h k = grind arith
list_all-set p (x ∷ xs) (suc i) y h k = grind (arith, list_all-set p xs i y h)

-- the unit of a variable, read at an index
pub unit_is : (us : List (Option UnitClause)) (o : Option UnitClause) (i v : ℕ) → o ≡ unit_at us i → i ≡ v → unit_of (stored_units us) v ≡ option_map stored_unit o
unit_is us o i v h e = cc (unit_of-stored_units us v)

pub stored_units-set : (us : List (Option UnitClause)) (v : ℕ) (u : UnitClause) → stored_units (set us v (Some u)) ≡ set (stored_units us) v (Some (stored_unit u))
stored_units-set us v u = map-set _ us v _
