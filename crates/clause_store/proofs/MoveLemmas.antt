-- Clauses whose buffer grows, and clauses moved to another buffer.
use Rattle.std.proofs.Common.{◌≡◌, ℕ, suc, ◌+◌, ◌-◌, ◌≤◌, List, [], ◌∷◌, ◌++◌, length, take, drop, map, All, refl, sym, ap, ◌∙◌, subst, arith, ⊎_elim, Bool, true}
use Rattle.std.proofs.Common.{false, cond, nat_eq, append-nil, append_assoc}
use Rattle.std.proofs.lemmas.Bool.{cases_eq, cases_Bool}
use Rattle.std.proofs.lemmas.List.{drop-take, map-append, take-take, drop-drop, length-append, length-drop, length-take, take-append-le, take_all}
use Rattle.std.proofs.lemmas.List.Elements.{All-push, All-cons, All-head, All-nil, All-tail}
use Rattle.std.specs.List.{FoldsTo, flat_map, sum_by}
use Rattle.std.specs.List.Sorted.{IsPermutation}
use Rattle.std.specs.Map.{lookup, values_of}
use Rattle.std.specs.Map.Calls.{RetainsPairs, SomeCallAtPair}
use Rattle.std.proofs.lemmas.List.Concat.{flat_map-append}
use Rattle.std.proofs.lemmas.List.Sorted.{sum_by-IsPermutation}
use Rattle.std.proofs.lemmas.List.Sums.{sum_by-cons}
use Rattle.std.proofs.Math.Seq.{drop-append_seam}
use Rattle.checker_rules.specs.Buckets.{of_hash}
use Rattle.checker_rules.specs.LiveLiterals.{live_literals, live_of}
use Rattle.checker_rules.specs.State.{Stored}
use Rattle.clause_store.specs.declared.clauses.Clause.{Clause}
use Rattle.clause_store.specs.declared.clauses.lits.ClauseLits.{ClauseLits}
use Rattle.clause_store.specs.declared.clauses.lits.ClauseLits.TheVariants.{Two, Three, Long}
use Rattle.clause_store.specs.declared.clauses.buckets.Bucket.{Bucket}
use Rattle.clause_store.specs.Buckets.{AreWithin, Buckets, clauses_at, bucket_items, clauses_of}
use Rattle.clause_store.specs.Lits.{IsWithin, lits_of, buffer_used, in_buffer, moved_to}
use Rattle.clause_store.specs.View.{stored_in, stored_of}
use Rattle.clause_store.specs.Moved.{all_in_buffer, all_moved_to, all_used}

module _ (old new : List ℕ) (kept : take (length old) new ≡ old) where
  -- the literals stay
  lits_of-kept : (c : ClauseLits) → IsWithin c old → lits_of c new ≡ lits_of c old
  lits_of-kept (Two ls) w = refl
  lits_of-kept (Three ls) w = refl
  lits_of-kept (Long start after_four) w =
      let len = after_four + 4 in
      let n : length old ≡ start + (length old - start) = omega (arith, w) in
      let cut = ap (drop start) (cc) ∙ drop-take start (length old - start) new in
      sym (ap (take len) cut ∙ take-take len (length old - start) (drop start new) (omega (arith, w)))

  pub stored_of-kept : (cs : List Clause) → All (λ c. IsWithin c.lits old) cs → map (stored_of new) cs ≡ map (stored_of old) cs
  stored_of-kept [] w = refl
  stored_of-kept (c ∷ cs) w =
      cc (lits_of-kept c.lits (w 0 c (omega arith)), stored_of-kept cs (λ k d l. w (suc k) d (omega (arith, l))))

  -- one clause more in a bucket
  module _ (m m' : Buckets) (hash : ℕ) (d : Clause) (within : AreWithin old m) (longer : length old ≤ length new) (here : IsWithin d.lits new)
      (pushed : clauses_at m' hash ≡ clauses_at m hash ++ d ∷ []) (others : (k : ℕ) → (k ≡ hash → ⊥) → clauses_at m' k ≡ clauses_at m k) where
    pub stored_in-pushed : stored_in new m' hash ≡ stored_in old m hash ++ stored_of new d ∷ []
    stored_in-pushed = cc (map-append (stored_of new) (clauses_at m hash) (d ∷ []), stored_of-kept (clauses_at m hash) (within hash))

    pub stored_in-others : (k : ℕ) → (k ≡ hash → ⊥) → stored_in new m' k ≡ stored_in old m k
    stored_in-others k ne = cc (others k ne, stored_of-kept (clauses_at m k) (within k))

    still_within : (k : ℕ) → All (λ c. IsWithin c.lits new) (clauses_at m k)
    still_within k i c l = let w = within k i c l in omega arith

    pub within-pushed : AreWithin new m'
    within-pushed k = ⊎_elim
        (λ e. rw e (subst (All (λ c. IsWithin c.lits new)) (sym pushed) (All-push (λ c. IsWithin c.lits new) (clauses_at m hash) d (still_within hash) here)))
        (λ ne. rw (others k ne) (still_within k)) (cases_eq k hash)

-- the live literals of two lists, and of the same in another order
pub live_literals-append : (es fs : List Stored) → live_literals (es ++ fs) ≡ live_literals es + live_literals fs
live_literals-append [] fs = omega arith
live_literals-append (e ∷ es) fs = let rest = live_literals-append es fs in omega arith

live_literals-sum : (es : List Stored) → live_literals es ≡ sum_by (λ e. live_of e.lits) es
live_literals-sum [] = refl
live_literals-sum (e ∷ es) = cc (live_literals-sum es, sum_by-cons (λ (e' : Stored). live_of e'.lits) e es)

pub live_literals-order : (es fs : List Stored) → IsPermutation es fs → live_literals fs ≡ live_literals es
live_literals-order es fs p = cc (live_literals-sum fs, sum_by-IsPermutation (λ e. live_of e.lits) es fs p, live_literals-sum es)

-- the clauses of a list of buckets
abbrev pub clauses_in : List (ℕ × Bucket) → List Clause
clauses_in es = flat_map clauses_of (values_of es)

-- what is true of two lists is true of each
pub All-first : {X : Type 0} (P : X → Type 0) (xs ys : List X) → All P (xs ++ ys) → All P xs
All-first P [] ys all = All-nil P
All-first P (x ∷ xs) ys all = All-cons P x xs (All-head P x (xs ++ ys) all) (All-first P xs ys (All-tail P x (xs ++ ys) all))

pub All-second : {X : Type 0} (P : X → Type 0) (xs ys : List X) → All P (xs ++ ys) → All P ys
All-second P [] ys all = all
All-second P (x ∷ xs) ys all = All-second P xs ys (All-tail P x (xs ++ ys) all)

-- of two lists of clauses
pub all_used-append : (cs ds : List Clause) → all_used (cs ++ ds) ≡ all_used cs + all_used ds
all_used-append [] ds = omega arith
all_used-append (c ∷ cs) ds = let rest = all_used-append cs ds in omega arith

pub all_moved_to-length : (at : ℕ) (cs : List Clause) → length (all_moved_to at cs) ≡ length cs
all_moved_to-length at [] = refl
all_moved_to-length at (c ∷ cs) = ap suc (all_moved_to-length (at + buffer_used c.lits) cs)

pub all_moved_to-append : (at : ℕ) (cs ds : List Clause) → all_moved_to at (cs ++ ds) ≡ all_moved_to at cs ++ all_moved_to (at + all_used cs) ds
all_moved_to-append at [] ds = ap (λ n. all_moved_to n ds) (omega arith)
all_moved_to-append at (c ∷ cs) ds = grind (arith, all_moved_to-append (at + buffer_used c.lits) cs ds)

module _ (buffer : List ℕ) where
  -- this many literals are copied
  in_buffer-length : (c : ClauseLits) → IsWithin c buffer → length (in_buffer buffer c) ≡ buffer_used c
  in_buffer-length c w = grind (arith, length-take {A = ℕ}, length-drop {A = ℕ})

  pub all_used-is : (cs : List Clause) → All (λ c. IsWithin c.lits buffer) cs → length (all_in_buffer buffer cs) ≡ all_used cs
  all_used-is [] w = refl
  all_used-is (c ∷ cs) w =
      let P : Clause → Type 0 = λ d. IsWithin d.lits buffer in
      simp length-append (omega (arith, in_buffer-length c.lits (All-head P c cs w), all_used-is cs (All-tail P c cs w)))

-- a clause has its literals where they were put, and the rest follows
record IsMoved (buffer new rest : List ℕ) (at : ℕ) (c : ClauseLits) : Type 0 where
  lits : lits_of (moved_to at c) new ≡ lits_of c buffer
  within : IsWithin (moved_to at c) new
  next : drop (at + buffer_used c) new ≡ rest

is_moved : (buffer new rest : List ℕ) (at : ℕ) (c : ClauseLits) → IsWithin c buffer → drop at new ≡ in_buffer buffer c ++ rest → IsMoved buffer new rest at c
is_moved buffer new rest at (Two ls) w is = record { lits = refl; within = omega arith; next = grind arith }
is_moved buffer new rest at (Three ls) w is = record { lits = refl; within = omega arith; next = grind arith }
is_moved buffer new rest at (Long start after_four) w is =
    let n = after_four + 4 in let xs = take n (drop start buffer) in
    let all : length xs ≡ n = in_buffer-length buffer (Long start after_four) w in
    record {
      lits = ap (take n) is ∙ take-append-le n xs rest (omega arith) ∙ take_all n xs (omega arith);
      within = let d = length-drop at new in let e = ap length is in let both = length-append xs rest in omega arith;
      next = cc (drop-drop n at new, drop-append_seam xs rest);
    }

-- and so have all
record AreMoved (buffer new rest : List ℕ) (at : ℕ) (cs : List Clause) : Type 0 where
  same : map (stored_of new) (all_moved_to at cs) ≡ map (stored_of buffer) cs
  within : All (λ c. IsWithin c.lits new) (all_moved_to at cs)
  next : drop (at + all_used cs) new ≡ rest

are_moved : (buffer new rest : List ℕ) (at : ℕ) (cs : List Clause) → All (λ c. IsWithin c.lits buffer) cs → drop at new ≡ all_in_buffer buffer cs ++ rest →
    AreMoved buffer new rest at cs
are_moved buffer new rest at [] w is = record { same = refl; within = All-nil (λ c. IsWithin c.lits new); next = grind arith }
are_moved buffer new rest at (c ∷ cs) w is =
    let P : Clause → Type 0 = λ d. IsWithin d.lits buffer in
    let split : drop at new ≡ in_buffer buffer c.lits ++ (all_in_buffer buffer cs ++ rest) = is ∙ append_assoc (in_buffer buffer c.lits) (all_in_buffer buffer cs) rest in
    let here = is_moved buffer new (all_in_buffer buffer cs ++ rest) at c.lits (All-head P c cs w) split in
    let later = are_moved buffer new rest (at + buffer_used c.lits) cs (All-tail P c cs w) here.next in
    let end : at + all_used (c ∷ cs) ≡ at + buffer_used c.lits + all_used cs = omega arith in
    record {
      same = cc (here.lits, later.same);
      within = All-cons (λ d. IsWithin d.lits new) _ _ here.within later.within;
      next = ap (λ n. drop n new) end ∙ later.next;
    }

-- the buckets in turn, where each call moves one
module _ {F : Type 0} (T : F → ℕ → Bucket → Bool → Bucket → F → Type 0) (at : F → ℕ)
    (step : (f : F) (k : ℕ) (v : Bucket) (b : Bool) (w : Bucket) (f' : F) → T f k v b w f' →
    (b ≡ true) × (clauses_of w ≡ all_moved_to (at f) (clauses_of v)) × (at f' ≡ at f + all_used (clauses_of v))) where
  pub end-before : (before : List (ℕ × Bucket)) (f f' : F) → FoldsTo (SomeCallAtPair T) f before f' → at f' ≡ at f + all_used (clauses_in before)
  end-before [] f f' r = let e : at f ≡ at f' = ap at r in omega arith
  end-before (e ∷ es) f f' (j, (b, w, t), r) =
      let s = (step f e.0 e.1 b w j t).2 in let rest = end-before es j f' r in
      let parts = all_used-append (clauses_of e.1) (clauses_in es) in omega arith

  module _ (buffer new : List ℕ) where
    -- what is where the calls have left the bucket of a hash
    abbrev Same : List (ℕ × Bucket) → List (ℕ × Bucket) → ℕ → Type 0
    Same kept es k =
        (map (stored_of new) (bucket_items (lookup (nat_eq k) kept)) ≡ map (stored_of buffer) (bucket_items (lookup (nat_eq k) es)))
        × All (λ c. IsWithin c.lits new) (bucket_items (lookup (nat_eq k) kept))

    pub retained : (es kept : List (ℕ × Bucket)) (f : F) → RetainsPairs T f es kept → All (λ c. IsWithin c.lits buffer) (clauses_in es) →
        drop (at f) new ≡ all_in_buffer buffer (clauses_in es) → (k : ℕ) → Same kept es k
    retained [] kept f r w is k = subst (λ ks. Same ks [] k) (sym r) (refl, All-nil (λ c. IsWithin c.lits new))
    retained (e ∷ es) kept f (b, w, f', rest, t, r, is_kept) within is k =
        let P : Clause → Type 0 = λ c. IsWithin c.lits buffer in
        let s = step f e.0 e.1 b w f' t in let cs = clauses_of e.1 in
        let here = All-first P cs (clauses_in es) within in
        let split : drop (at f) new ≡ all_in_buffer buffer cs ++ all_in_buffer buffer (clauses_in es) = is ∙ flat_map-append (λ (c : Clause). in_buffer buffer c.lits) cs (clauses_in es) in
        let moved = are_moved buffer new (all_in_buffer buffer (clauses_in es)) (at f) cs here split in
        let next : drop (at f') new ≡ all_in_buffer buffer (clauses_in es) = ap (λ n. drop n new) s.2 ∙ moved.next in
        let later = retained es rest f' r (All-second P cs (clauses_in es) within) next k in
        let entries : kept ≡ (e.0, w) ∷ rest = is_kept ∙ ap (λ x. cond x ((e.0, w) ∷ rest) rest) s.0 in
        ⊎_elim
        (λ (h : nat_eq k e.0 ≡ true). rw (entries, h, s.1) (moved.same, moved.within))
        (λ (h : nat_eq k e.0 ≡ false). rw (entries, h) later) (cases_Bool (nat_eq k e.0))

-- one clause more is copied
module _ (buffer old : List ℕ) where
  pub copied-more : (now : List ℕ) (cs : List Clause) (d : Clause) → now ≡ old ++ all_in_buffer buffer cs →
      now ++ in_buffer buffer d.lits ≡ old ++ all_in_buffer buffer (cs ++ d ∷ [])
  copied-more now cs d is =
      let f : Clause → List ℕ = λ c. in_buffer buffer c.lits in
      cc (append_assoc old (flat_map f cs) (f d), append-nil (f d), flat_map-append f cs (d ∷ []))

pub live-more : (buffer : List ℕ) (now base : ℕ) (cs : List Clause) (d : Clause) → now ≡ base + live_literals (map (stored_of buffer) cs) →
    now + live_of (lits_of d.lits buffer) ≡ base + live_literals (map (stored_of buffer) (cs ++ d ∷ []))
live-more buffer now base cs d is =
    let more = ap live_literals (map-append (stored_of buffer) cs (d ∷ [])) in
    let both = live_literals-append (map (stored_of buffer) cs) (stored_of buffer d ∷ []) in
    omega arith

-- new buckets hold the clauses by their hashes, where they were made of the same clauses
pub rebuilt_by : (f : List ℕ → ℕ) (m : Buckets) (es : List Stored) (buffer b : List ℕ) (all xs : List Clause) → b ≡ buffer → xs ≡ all →
    map (stored_of buffer) all ≡ es → ((k : ℕ) → stored_in b m k ≡ of_hash f k (map (stored_of b) xs)) → (k : ℕ) →
    stored_in buffer m k ≡ of_hash f k es
rebuilt_by f m es buffer b all xs p q r t k =
    cc (t k)
