-- The walk over all buckets, by which every stored clause is tested.
use Rattle.std.proofs.Common.{◌≡◌, ℕ, ◌+◌, Bool, not, ◌&&◌, List, [], ◌∷◌, ◌++◌, length, map, All, nat_eq, refl, sym, ap, ◌∙◌, subst, arith, length-append}
use Rattle.std.proofs.Math.ListN.{get_or-append}
use Rattle.checker_steps.proofs.Common.{IsUnique, values, flat_map, list_all, list_any, get_or-append-add, Stored, IsIndexed, stored_of, Clauses}
use Rattle.checker_steps.proofs.Common.{ClauseHasher, has_marked}
use Rattle.std.proofs.lemmas.List.Folds.{list_all-append, list_all-map}
use Rattle.std.proofs.lemmas.List.Sorted.{list_any-IsPermutation}
use Rattle.clause_store.specs.declared.clauses.Clause.{Clause}
use Rattle.clause_store.specs.declared.clauses.buckets.Bucket.{Bucket}
use Rattle.clause_store.specs.Buckets.{clauses_of}
use Rattle.clause_store.specs.Lits.{IsWithin}
use Rattle.clause_store.proofs.GatheredLemmas.{in_other_order}

-- the clauses of buckets, one after the other
abbrev pub clauses_in : List Bucket → List Clause
clauses_in bs = flat_map clauses_of bs

-- they are in the buffer
abbrev pub AllWithin : List ℕ → List Bucket → Type 0
AllWithin buffer bs = All (λ c. IsWithin c.lits buffer) (clauses_in bs)

-- whether some literal of each is in the set
abbrev pub all_met : (ℕ → Bool) → List ℕ → List Bucket → Bool
all_met listed buffer bs = list_all (λ c. has_marked listed (stored_of buffer c)) (clauses_in bs)

all-left : (P : Clause → Type 0) (xs ys : List Clause) → All P (xs ++ ys) → All P xs
all-left P xs ys h k d less = subst P (get_or-append xs ys d k less) (h k d (omega (arith, less, length-append xs ys)))

all-right : (P : Clause → Type 0) (xs ys : List Clause) → All P (xs ++ ys) → All P ys
all-right P xs ys h k d less = subst P (get_or-append-add xs ys k d) (h (length xs + k) d (omega (arith, less, length-append xs ys)))

-- the first bucket
module _ (listed : ℕ → Bool) (buffer : List ℕ) (bs : List Bucket) (b : Bucket) (rest : List Bucket) (first : bs ≡ b ∷ rest) where
  pub within-first : AllWithin buffer bs → All (λ c. IsWithin c.lits buffer) (clauses_of b)
  within-first h = all-left (λ c. IsWithin c.lits buffer) (clauses_of b) (clauses_in rest) (subst (AllWithin buffer) first h)

  pub within-rest : AllWithin buffer bs → AllWithin buffer rest
  within-rest h = all-right (λ c. IsWithin c.lits buffer) (clauses_of b) (clauses_in rest) (subst (AllWithin buffer) first h)

  pub met-by : (all : Bool) → list_all (λ c. has_marked listed (stored_of buffer c)) (clauses_of b) ≡ all → all_met listed buffer bs ≡ (all && all_met listed buffer rest)
  met-by all h =
      ap (all_met listed buffer) first ∙ list_all-append (λ c. has_marked listed (stored_of buffer c)) (clauses_of b) (clauses_in rest) ∙ ap (λ a. a && all_met listed buffer rest) h

-- all buckets
all-any : (p : Stored → Bool) (es : List Stored) → list_all p es ≡ not (list_any (λ e. not (p e)) es)
all-any p [] = refl
all-any p (e ∷ es) = grind (arith, all-any p es)

pub met-stored : (h : ClauseHasher) (cs : Clauses) (es : List Stored) → IsIndexed h cs es → IsUnique nat_eq cs.buckets →
    (listed : ℕ → Bool) → all_met listed cs.literal_buffer.items (values cs.buckets) ≡ list_all (has_marked listed) es
met-stored h cs es f unique listed =
    let p = has_marked listed in
    let walked = map (stored_of cs.literal_buffer.items) (clauses_in (values cs.buckets)) in
    sym (list_all-map p (stored_of cs.literal_buffer.items) (clauses_in (values cs.buckets)))
    ∙ all-any p walked ∙ sym (ap not (list_any-IsPermutation (λ e. not (p e)) es walked (in_other_order h cs es f unique))) ∙ sym (all-any p es)
