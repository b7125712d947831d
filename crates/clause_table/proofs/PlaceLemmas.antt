-- Places of clauses in a buffer.
use Rattle.std.proofs.Common.{◌≡◌, ℕ, zero, suc, ◌+◌, ◌-◌, ◌<◌, ◌≤◌, ◌⊎◌, Bool, true, cond, eqb, List, [], ◌∷◌, ◌++◌, length, get_or}
use Rattle.std.proofs.Common.{set, take, replicate, Some, refl, ap₂, ◌∙◌, arith, append_assoc, length-append, length-set}
use Rattle.std.proofs.lemmas.Bool.{leb-true, le-leb}
use Rattle.std.proofs.lemmas.List.{drop-append-le, drop_at, get_or_append_left, get_or_at, get_or-set_other, get_or_past, take_all, take_more_set}
use Rattle.std.proofs.lemmas.List.Folds.{sum_by-replicate}
use Rattle.std.proofs.lemmas.List.Sums.{sum_by-append, sum_by-cons, sum_by_push, sum_by-set}
use Rattle.std.proofs.lemmas.Grind.{common_steps, get_or-set_at}
use Rattle.clause_table.specs.Places.{are_rising, in_use, len_at, lits_at, size_at}

-- ---- clauses that are one after the other

-- the first of several places is none, or its clause comes before those of the others
pub rising-cases : (lits : List ℕ) (low p : ℕ) (ps : List ℕ) → are_rising lits low (p ∷ ps) ≡ true →
    ((p ≡ 0) × (are_rising lits low ps ≡ true)) ⊎ ((low < p) × (are_rising lits (p + len_at lits p) ps ≡ true))
rising-cases lits low p ps h = grind arith

-- they begin in the buffer
pub rising-low : (lits : List ℕ) (low : ℕ) (ps : List ℕ) → are_rising lits low ps ≡ true → low ≤ length lits
rising-low lits low [] h = leb-true low (length lits) h
rising-low lits low (p ∷ ps) h = grind (arith, rising-low lits low ps, rising-low lits (p + len_at lits p) ps)

-- and end in it
pub place-within : (lits : List ℕ) (low : ℕ) (ps : List ℕ) → are_rising lits low ps ≡ true → (i : ℕ) → 0 < get_or ps i 0 → get_or ps i 0 + len_at lits (get_or ps i 0) ≤ length lits
place-within lits low [] h i w = absurd (omega arith)
place-within lits low (p ∷ ps) h zero w = grind (arith, rising-low lits (p + len_at lits p) ps)
place-within lits low (p ∷ ps) h (suc i) w =
    let here = λ (h : are_rising lits low ps ≡ true). place-within lits low ps h i in
    let later = λ (h : are_rising lits (p + len_at lits p) ps ≡ true). place-within lits (p + len_at lits p) ps h i in
    grind (arith, here, later)

-- they may begin later
pub rising-lower : (lits : List ℕ) (low less : ℕ) (ps : List ℕ) → less ≤ low → are_rising lits low ps ≡ true → are_rising lits less ps ≡ true
rising-lower lits low less [] w h = grind arith
rising-lower lits low less (p ∷ ps) w h = grind (arith, rising-lower lits low less ps)

-- one of them may go
pub rising-clear : (lits : List ℕ) (low : ℕ) (ps : List ℕ) → are_rising lits low ps ≡ true → (i : ℕ) → are_rising lits low (set ps i 0) ≡ true
rising-clear lits low [] h i = h
rising-clear lits low (p ∷ ps) h zero = grind (arith, rising-lower lits (p + len_at lits p) low ps)
rising-clear lits low (p ∷ ps) h (suc i) = grind (arith, rising-clear lits low ps, rising-clear lits (p + len_at lits p) ps)

-- and the last ones
pub rising-take : (lits : List ℕ) (low : ℕ) (ps : List ℕ) → are_rising lits low ps ≡ true → (i : ℕ) → are_rising lits low (take i ps) ≡ true
rising-take lits low ps h zero = le-leb low (length lits) (rising-low lits low ps h)
rising-take lits low [] h (suc i) = h
rising-take lits low (p ∷ ps) h (suc i) = grind (arith, rising-take lits low ps, rising-take lits (p + len_at lits p) ps)

pub rising-more_nones : (lits : List ℕ) (low : ℕ) (ps : List ℕ) (n : ℕ) → are_rising lits low ps ≡ true → are_rising lits low (ps ++ replicate n 0) ≡ true
rising-more_nones lits low [] zero h = h
rising-more_nones lits low [] (suc n) h = rising-more_nones lits low [] n h
rising-more_nones lits low (p ∷ ps) n h = grind (arith, rising-more_nones lits low ps n, rising-more_nones lits (p + len_at lits p) ps n)

-- ---- a longer buffer

len-more : (lits more : List ℕ) (p : ℕ) → 0 < p → p + len_at lits p ≤ length lits → len_at (lits ++ more) p ≡ len_at lits p
len-more lits more p w u = get_or_append_left lits more 0 (p - 1) (omega arith)

-- a clause stays
pub lits_at-more : (lits more : List ℕ) (p : ℕ) → (0 < p → p + len_at lits p ≤ length lits) → lits_at (lits ++ more) p ≡ lits_at lits p
lits_at-more lits more p within = grind (arith, common_steps, len-more lits more p, drop-append-le p lits more)

pub in_use-more : (lits more : List ℕ) (low : ℕ) (ps : List ℕ) → are_rising lits low ps ≡ true → in_use (lits ++ more) ps ≡ in_use lits ps
in_use-more lits more low [] h = refl
in_use-more lits more low (p ∷ ps) h =
    let after = sum_by-cons (size_at (lits ++ more)) p ps in
    let before = sum_by-cons (size_at lits) p ps in
    grind (arith, after, before, rising-low lits (p + len_at lits p) ps, len-more lits more p, in_use-more lits more low ps, in_use-more lits more (p + len_at lits p) ps)

-- ---- a clause more, after its length, at the end of the buffer

pub len-new : (lits c : List ℕ) (n : ℕ) → len_at (lits ++ n ∷ c) (length lits + 1) ≡ n
len-new lits c n = get_or_at lits n c 0 (length lits + 1 - 1) (omega arith)

size-new : (lits c : List ℕ) (n : ℕ) → size_at (lits ++ n ∷ c) (length lits + 1) ≡ n + 1
size-new lits c n = grind (arith, len-new lits c n)

pub lits_at-new : (lits c : List ℕ) (n : ℕ) → n ≡ length c → lits_at (lits ++ n ∷ c) (length lits + 1) ≡ Some c
lits_at-new lits c n e = grind (arith, common_steps, len-new lits c n, drop_at (lits ++ n ∷ []) c (length lits + 1), append_assoc lits (n ∷ []) c)

pub rising-push : (lits c : List ℕ) (n low : ℕ) (ps : List ℕ) → n ≡ length c → are_rising lits low ps ≡ true → are_rising (lits ++ n ∷ c) low (ps ++ (length lits + 1) ∷ []) ≡ true
rising-push lits c n low [] e h = grind (arith, len-new lits c n, length-append lits (n ∷ c))
rising-push lits c n low (p ∷ ps) e h =
    grind (arith, rising-low lits (p + len_at lits p) ps, len-more lits (n ∷ c) p, rising-push lits c n low ps, rising-push lits c n (p + len_at lits p) ps)

pub in_use-push : (lits c : List ℕ) (n low : ℕ) (ps : List ℕ) → are_rising lits low ps ≡ true → in_use (lits ++ n ∷ c) (ps ++ (length lits + 1) ∷ []) ≡ in_use lits ps + (n + 1)
in_use-push lits c n low ps h = sum_by_push (size_at (lits ++ n ∷ c)) ps (length lits + 1) ∙ ap₂ (λ a b. a + b) (in_use-more lits (n ∷ c) low ps h) (size-new lits c n)

-- ---- the same at the place of the last id

set-last : (ps : List ℕ) (i x : ℕ) → length ps ≡ i + 1 → set ps i x ≡ take i ps ++ x ∷ []
set-last ps i x e = grind (arith, take_all (i + 1) (set ps i x), take_more_set ps i x, length-set ps i x)

-- what the buffer and the places are then
pub record Stored (lits c : List ℕ) (n : ℕ) (ps : List ℕ) (i : ℕ) (buffer starts : List ℕ) : Type 0 where
  pub rising : are_rising buffer 0 starts ≡ true
  pub used : in_use buffer starts ≡ in_use lits ps + (n + 1)
  pub size : length buffer ≡ length lits + (n + 1)
  pub here : (k : ℕ) → lits_at buffer (get_or starts k 0) ≡ cond (eqb k i) (Some c) (lits_at lits (get_or ps k 0))

pub stored : (lits c : List ℕ) (n : ℕ) (ps : List ℕ) (i : ℕ) → n ≡ length c → are_rising lits 0 ps ≡ true → length ps ≡ i + 1 → get_or ps i 0 ≡ 0 →
    (buffer : List ℕ) (x : ℕ) → buffer ≡ lits ++ n ∷ c → x ≡ length lits → Stored lits c n ps i buffer (set ps i (x + 1))
stored lits c n ps i len h w free buffer x longer end = rw (longer, end) (record {
  rising = rw (set-last ps i (length lits + 1) w) (rising-push lits c n 0 (take i ps) len (rising-take lits 0 ps h i));
  used = grind (arith, sum_by-set (size_at (lits ++ n ∷ c)) ps i (length lits + 1) 0, free, in_use-more lits (n ∷ c) 0 ps h, size-new lits c n);
  size = omega (arith, length-append lits (n ∷ c));
  here = λ k. grind (arith, get_or-set_at, get_or-set_other, lits_at-new lits c n len, lits_at-more lits (n ∷ c) (get_or ps k 0) (place-within lits 0 ps h k));
})

-- ---- an id without a clause

-- what its clause took is not in use any more
pub cleared-in_use : (lits ps : List ℕ) (i : ℕ) → i < length ps → 0 < get_or ps i 0 → in_use lits (set ps i 0) + (len_at lits (get_or ps i 0) + 1) ≡ in_use lits ps
cleared-in_use lits ps i w u = grind (arith, sum_by-set (size_at lits) ps i 0 0 w)

-- an id with a clause has a place
pub placed-below : (ps : List ℕ) (i : ℕ) → 0 < get_or ps i 0 → i < length ps
placed-below ps i u = grind (arith, get_or_past ps i 0)

-- places of no clause change nothing
pub more_nones-in_use : (lits ps : List ℕ) (n : ℕ) → in_use lits (ps ++ replicate n 0) ≡ in_use lits ps
more_nones-in_use lits ps n = rw (sum_by-append (size_at lits) ps (replicate n 0), sum_by-replicate (size_at lits) n 0) (omega arith)

-- a list of places that is filled up, or that stays since memory ran out
pub filled : (ps qs rs : List ℕ) (b : Bool) (n m : ℕ) → qs ≡ ps → rs ≡ cond b (take n qs ++ replicate m 0) qs → length ps ≤ n → (rs ≡ ps ++ replicate m 0) ⊎ (rs ≡ ps)
filled ps qs rs b n m e f w = grind (arith, take_all n ps w)

pub filled-rising : (lits ps rs : List ℕ) (m : ℕ) → are_rising lits 0 ps ≡ true → (rs ≡ ps ++ replicate m 0) ⊎ (rs ≡ ps) → are_rising lits 0 rs ≡ true
filled-rising lits ps rs m h is = grind (arith, rising-more_nones lits 0 ps m h)

pub filled-in_use : (lits ps rs : List ℕ) (m : ℕ) → (rs ≡ ps ++ replicate m 0) ⊎ (rs ≡ ps) → in_use lits rs ≡ in_use lits ps
filled-in_use lits ps rs m is = grind (arith, more_nones-in_use lits ps m)
