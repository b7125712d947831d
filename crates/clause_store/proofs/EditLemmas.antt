-- The store after an edit of one bucket.
use Rattle.std.proofs.Common.{◌≡◌, ℕ, ◌+◌, ◌*◌, ◌≤◌, Bool, true, false, cond, List, [], ◌∷◌, ◌++◌, append-nil, length, map, All, refl, subst, arith, ⊎_elim}
use Rattle.std.specs.List.{list_all}
use Rattle.std.proofs.lemmas.Bool.{cases_eq}
use Rattle.std.proofs.lemmas.List.Folds.{list_all-append}
use Rattle.std.proofs.lemmas.Bool.Decides.{nat_tests}
use Rattle.checker_rules.specs.Buckets.{of_hash}
use Rattle.checker_rules.specs.Canonical.{same_list}
use Rattle.checker_rules.specs.DeleteClause.{is_short}
use Rattle.checker_rules.specs.State.{Stored}
use Rattle.checker_rules.specs.Store.{is_gone, is_stored, new_stored, raise}
use Rattle.checker_rules.specs.WellFormed.{ids_rise}
use Rattle.checker_rules.proofs.Buckets.{buckets_serve}
use Rattle.checker_rules.proofs.Entries.{apart_map, apart_push, raise_id, rise_map, rise_push}
use Rattle.checker_rules.proofs.Orders.{live_literals_add}
use Rattle.checker_rules.proofs.Sets.{raise-lits}
use Rattle.clause_store.specs.declared.clauses.Clauses.{Clauses}
use Rattle.clause_store.specs.declared.hash.ClauseHasher.{ClauseHasher}
use Rattle.clause_store.specs.Buckets.{AreWithin, Buckets, clauses_at}
use Rattle.clause_store.specs.Counts.{AreCounts}
use Rattle.clause_store.specs.Edits.{IsPushed, IsRaised}
use Rattle.clause_store.specs.Lits.{IsWithin}
use Rattle.clause_store.specs.StateOf.{hash_of}
use Rattle.clause_store.specs.Store.{IsIndexed, IsStore, is_stored_unit, is_whole}
use Rattle.clause_store.specs.View.{stored_list, stored_in}
use Rattle.clause_store.proofs.HeldLemmas.{counts-pushed}
use Rattle.clause_store.proofs.ViewLemmas.{above_from, list_is}

-- buckets that hold a list by rising ids
pub stored_list-is : (h : ClauseHasher) (cs : Clauses) (es : List Stored) → IsIndexed h cs es → stored_list cs ≡ es
stored_list-is h cs es f = list_is _ _ _ es (above_from 0 _ es f.rise) f.bucketed

pub is_store-by : (h : ClauseHasher) (cs : Clauses) (es : List Stored) → IsIndexed h cs es → 2 * cs.garbage_size ≤ length cs.literal_buffer.items → list_all is_stored_unit cs.unit_clauses ≡ true
    → AreCounts cs.lit_counts (length cs.unit_clauses) es → IsStore h cs
is_store-by h cs es f garbage units counts =
    let same = stored_list-is h cs es f in let filed : IsIndexed h cs (stored_list cs) = rw same f in
    let counted : AreCounts cs.lit_counts (length cs.unit_clauses) (stored_list cs) = rw same counts in
    assumption

-- a change in one bucket
pub within_others : (buffer : List ℕ) (m n : Buckets) (hash : ℕ) → AreWithin buffer m →
    All (λ d. IsWithin d.lits buffer) (clauses_at n hash) → ((k : ℕ) → (k ≡ hash → ⊥) → clauses_at n k ≡ clauses_at m k) →
    AreWithin buffer n
within_others buffer m n hash all here others k =
    ⊎_elim
    (λ e. rw e here)
    (λ ne. rw (others k ne) (all k)) (cases_eq k hash)

-- a copy more is counted
gone_raised : (r b : Bool) (e : Stored) → is_gone e ≡ false → is_gone (cond b (cond r (record e { redundant = e.redundant + 1 }) (record e { irredundant = e.irredundant + 1 })) e) ≡ false
gone_raised r b e h = grind (arith, nat_tests)

whole-raise : (r : Bool) (c : List ℕ) (es : List Stored) → list_all is_whole es ≡ true → list_all is_whole (map (raise r c) es) ≡ true
whole-raise r c [] h = refl
whole-raise r c (e ∷ es) h =
    grind (arith, raise-lits r c e, gone_raised r (same_list e.lits c) e, whole-raise r c es)

pub files-raised : (h : ClauseHasher) (cs : Clauses) (es : List Stored) (m : Buckets) (r : Bool) (c : List ℕ) → IsIndexed h cs es →
    IsRaised cs.literal_buffer.items (hash_of h c) r c cs.buckets m → IsIndexed h (record cs { buckets = m }) (map (raise r c) es)
files-raised h cs es m r c f p = record {
  some_bits = f.some_bits;
  bits = f.bits;
  within = within_others cs.literal_buffer.items cs.buckets m (hash_of h c) f.within p.within p.others;
  bucketed = λ k. grind (arith, nat_tests, p.here, p.others k, f.bucketed k, (buckets_serve (hash_of h) es).raised k r c);
  rise = cc (rise_map (raise r c) (raise_id r c) 0 es cs.next_clause_id);
  apart = cc (apart_map (raise r c) (raise-lits r c) es);
  whole = whole-raise r c es f.whole;
  used = cc (live_literals_add.raised r c es);
}

-- a clause more is stored
whole-push : (es : List Stored) (r : Bool) (c : List ℕ) (id : ℕ) → list_all is_whole es ≡ true → is_short c ≡ false → list_all is_whole (es ++ new_stored r c id ∷ []) ≡ true
whole-push es r c id all long =
    grind (arith, list_all-append is_whole es (new_stored r c id ∷ []))

pub files-pushed : (h : ClauseHasher) (cs cs' : Clauses) (es : List Stored) (r : Bool) (c : List ℕ) → IsIndexed h cs es →
    IsPushed (hash_of h c) (new_stored r c cs.next_clause_id) cs cs' → is_stored c es ≡ false → is_short c ≡ false →
    IsIndexed h cs' (es ++ new_stored r c cs.next_clause_id ∷ [])
files-pushed h cs cs' es r c f p new long = let e = new_stored r c cs.next_clause_id in record {
  some_bits = f.some_bits;
  bits = f.bits;
  within = p.within;
  bucketed = λ k.
      grind (arith, nat_tests, p.here, p.others k, f.bucketed k, append-nil, (buckets_serve (hash_of h) es).push k e);
  rise = subst (λ n. ids_rise 0 (es ++ e ∷ []) n ≡ true) (cc) (rise_push 0 es r c cs.next_clause_id f.rise);
  apart = apart_push es e f.apart new;
  whole = whole-push es r c cs.next_clause_id f.whole long;
  used = let live = live_literals_add.pushed es e in let old = f.used in omega (arith, p.used, p.garbage, live, old);
}

pub is_store-pushed : (h : ClauseHasher) (cs cs' : Clauses) (r : Bool) (c : List ℕ) → IsStore h cs →
    IsPushed (hash_of h c) (new_stored r c cs.next_clause_id) cs cs' → is_stored c (stored_list cs) ≡ false → is_short c ≡ false →
    IsStore h cs'
is_store-pushed h cs cs' r c s p new long =
    is_store-by h cs' _ (files-pushed h cs cs' _ r c s.filed p new long) (omega arith)
    (rw p.units s.units)
    (rw p.units (counts-pushed cs.lit_counts cs'.lit_counts (length cs.unit_clauses) (stored_list cs) (new_stored r c cs.next_clause_id) s.counts p.held p.counted))

-- nothing is changed
pub files-same : (h : ClauseHasher) (cs : Clauses) (es : List Stored) (m : Buckets) → IsIndexed h cs es →
    ((k : ℕ) → clauses_at m k ≡ clauses_at cs.buckets k) → IsIndexed h (record cs { buckets = m }) es
files-same h cs es m f same =
    let within : AreWithin cs.literal_buffer.items m = λ k. rw (same k) (f.within k) in
    let bucketed : (k : ℕ) → stored_in cs.literal_buffer.items m k ≡ of_hash (hash_of h) k es = λ k. cc (same k, f.bucketed k) in
    assumption
