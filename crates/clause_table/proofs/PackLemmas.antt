-- Clauses that close up within their buffer.
use Rattle.std.proofs.Common.{◌≡◌, ℕ, ◌+◌, ◌-◌, ◌<◌, ◌≤◌, ◌⊎◌, true, List, [], ◌∷◌, ◌++◌, length, get_or, add-one}
use Rattle.std.proofs.Common.{set, take, drop, slice_range, Some, refl, sym, ◌∙◌, arith, length-append, length-drop, length-set, length-take-le}
use Rattle.std.proofs.lemmas.List.{drop-drop, drop-set-lt, drop_at, drop_more, get_or_append_left, get_or-drop, get_or_past, get_or_push, length_push, take_all, take_at, take_more, take_more_set}
use Rattle.std.specs.List.{copy_within}
use Rattle.clause_table.specs.Places.{are_rising, in_use, len_at, lits_at}
use Rattle.clause_table.proofs.PlaceLemmas.{in_use-push, lits_at-more, lits_at-new, more_nones-in_use, place-within, rising-cases, rising-low, rising-lower, rising-more_nones, rising-push}

-- ---- the clauses of the first ids in a buffer of their own, without garbage

pub record Packed (lits places packed starts : List ℕ) (i : ℕ) : Type 0 where
  pub count : length starts ≡ i
  pub same : (k : ℕ) → k < i → lits_at packed (get_or starts k 0) ≡ lits_at lits (get_or places k 0)
  pub rising : are_rising packed 0 starts ≡ true
  pub used : in_use packed starts ≡ length packed

-- an id more, which has no clause
packed-none : (lits places packed starts : List ℕ) (i : ℕ) → Packed lits places packed starts i → get_or places i 0 ≡ 0 → Packed lits places packed (starts ++ 0 ∷ []) (i + 1)
packed-none lits places packed starts i m none = record {
  count = omega (arith, length_push starts 0, m.count);
  same = λ k w. grind (arith, m.same k, m.count, none, get_or_push, get_or_append_left);
  rising = rising-more_nones packed 0 starts 1 m.rising;
  used = more_nones-in_use packed starts 1 ∙ m.used;
}

-- and one with a clause
packed-next : (lits places packed starts : List ℕ) (i n : ℕ) (c : List ℕ) → Packed lits places packed starts i → n ≡ length c → lits_at lits (get_or places i 0) ≡ Some c →
    Packed lits places (packed ++ n ∷ c) (starts ++ (length packed + 1) ∷ []) (i + 1)
packed-next lits places packed starts i n c m len here = record {
  count = omega (arith, length_push starts (length packed + 1), m.count);
  same = λ k w.
      let stays = lits_at-more packed (n ∷ c) (get_or starts k 0) (place-within packed 0 starts m.rising k) in
      grind (arith, m.same k, m.count, here, get_or_push, get_or_append_left, lits_at-new packed c n len, stays);
  rising = rising-push packed c n 0 starts len m.rising;
  used = omega (arith, in_use-push packed c n 0 starts m.rising, m.used, length-append packed (n ∷ c));
}

-- ---- lists that agree from some index on

agree-drop : (e p : ℕ) (a b : List ℕ) → e ≤ p → drop e a ≡ drop e b → drop p a ≡ drop p b
agree-drop e p a b w h = grind (arith, drop-drop (p - e) e a, drop-drop (p - e) e b)

agree-get_or : (e p : ℕ) (a b : List ℕ) → e ≤ p → drop e a ≡ drop e b → get_or a p 0 ≡ get_or b p 0
agree-get_or e p a b w h = grind (arith, get_or-drop e a (p - e) 0, get_or-drop e b (p - e) 0)

-- ---- the loop: the first ids have their clauses at the start of the buffer, and the others where they were

pub record Packing (lits places now starts : List ℕ) (i end : ℕ) : Type 0 where
  pub count : length starts ≡ length places
  pub size : length now ≡ length lits
  pub to_come : drop i starts ≡ drop i places
  pub above : drop end now ≡ drop end lits
  pub left : are_rising lits end (drop i places) ≡ true
  pub packed : Packed lits places (take end now) (take i starts) i

-- the next id
record Next (lits places starts : List ℕ) (i end p : ℕ) : Type 0 where
  place : get_or places i 0 ≡ p
  coming : drop (i + 1) starts ≡ drop (i + 1) places
  cases : ((p ≡ 0) × (are_rising lits end (drop (i + 1) places) ≡ true)) ⊎ ((end < p) × (are_rising lits (p + len_at lits p) (drop (i + 1) places) ≡ true))

packing-at : (lits places now starts : List ℕ) (i end : ℕ) → Packing lits places now starts i end → i < length starts → (p : ℕ) → p ≡ get_or starts i 0 → Next lits places starts i end p
packing-at lits places now starts i end m w p e =
    let same : get_or places i 0 ≡ p = sym (e ∙ agree-get_or i i starts places (omega arith) m.to_come) in
    record {
      place = same;
      coming = agree-drop i (i + 1) starts places (omega arith) m.to_come;
      cases = rw same at (rising-cases lits end (get_or places i 0) (drop (i + 1) places) (rw (drop_more places i 0 (omega (arith, m.count))) at m.left));
    }

-- where its clause is
pub packing-within : (lits places now starts : List ℕ) (i end : ℕ) → Packing lits places now starts i end → i < length starts → (p : ℕ) → p ≡ get_or starts i 0 → 0 < p →
    (end < p) × (p + len_at now p ≤ length now)
packing-within lits places now starts i end m w p e u =
    let next = packing-at lits places now starts i end m w p e in
    grind (arith, next.cases, rising-low lits (p + len_at lits p) (drop (i + 1) places), agree-get_or end (p - 1) now lits, m.above, m.size)

-- past an id without a clause
pub packing-none : (lits places now starts : List ℕ) (i end : ℕ) → Packing lits places now starts i end → i < length starts → get_or starts i 0 ≡ 0 → Packing lits places now starts (i + 1) end
packing-none lits places now starts i end m w none =
    let next = packing-at lits places now starts i end m w 0 (sym none) in
    record {
      count = m.count;
      size = m.size;
      to_come = next.coming;
      above = m.above;
      left = grind (arith, next.cases);
      packed = rw (take_more starts i 0 w, none) (packed-none lits places (take end now) (take i starts) i m.packed next.place);
    }

-- past an id whose clause moved down
pub packing-next : (lits places now starts : List ℕ) (i end : ℕ) → Packing lits places now starts i end → i < length starts → (p : ℕ) → p ≡ get_or starts i 0 → 0 < p →
    (later : List ℕ) (after : ℕ) → after ≡ end + (len_at now p + 1) → take after later ≡ take end now ++ len_at now p ∷ slice_range now p (p + len_at now p) →
    drop after later ≡ drop after now → length later ≡ length now → Packing lits places later (set starts i (end + 1)) (i + 1) after
packing-next lits places now starts i end m w p e u later after is moved above size =
    let n = len_at now p in
    let clause = slice_range now p (p + n) in
    let next = packing-at lits places now starts i end m w p e in
    let inside = packing-within lits places now starts i end m w p e u in
    let same_len : n ≡ len_at lits p = agree-get_or end (p - 1) now lits (omega (arith, inside.0)) m.above in
    let start : length (take end now) ≡ end = length-take-le end now (omega (arith, inside.0, inside.1)) in
    let here : lits_at lits (get_or places i 0) ≡ Some clause = rw next.place (grind (arith, same_len, agree-drop end p now lits, m.above, inside.0)) in
    let len : n ≡ length clause = grind (arith, length-take-le (p + n - p) (drop p now), length-drop p now, inside.1) in
    record {
      count = length-set starts i (end + 1) ∙ m.count;
      size = size ∙ m.size;
      to_come = drop-set-lt (i + 1) starts i (end + 1) (omega arith) ∙ next.coming;
      above = above ∙ agree-drop end after now lits (omega arith) m.above;
      left = grind (arith, next.cases, rising-lower lits (p + len_at lits p) after (drop (i + 1) places), same_len, is);
      packed = rw (take_more_set starts i (end + 1) w, moved) (rw start at (packed-next lits places (take end now) (take i starts) i n clause m.packed len here));
    }

-- past the last
pub packing-all : (lits places now starts : List ℕ) (i end : ℕ) → Packing lits places now starts i end → length starts ≤ i → Packed lits places (take end now) starts i
packing-all lits places now starts i end m w = rw (take_all i starts w) at m.packed

pub packed-all : (lits places packed starts : List ℕ) (i : ℕ) → Packed lits places packed starts i → length starts ≡ length places → (k : ℕ) → lits_at packed (get_or starts k 0) ≡ lits_at lits (get_or places k 0)
packed-all lits places packed starts i m same k = grind (arith, m.same k, m.count, get_or_past)

-- ---- one clause that moves down

-- it with its length
record-is : (xs : List ℕ) (p n : ℕ) → 0 < p → p + n ≤ length xs → take (n + 1) (drop (p - 1) xs) ≡ len_at xs p ∷ slice_range xs p (p + n)
record-is xs p n w u = grind (arith, add-one n, drop_more xs (p - 1) 0)

pub moved-down : (xs : List ℕ) (p n end : ℕ) → end < p → p + n ≤ length xs → (after : ℕ) → after ≡ end + (n + 1) →
    (take after (copy_within xs (p - 1) (p + n) end) ≡ take end xs ++ len_at xs p ∷ slice_range xs p (p + n))
    × (drop after (copy_within xs (p - 1) (p + n) end) ≡ drop after xs) × (length (copy_within xs (p - 1) (p + n) end) ≡ length xs)
moved-down xs p n end low high after is =
    let k = p + n - (p - 1) in
    let e : k ≡ n + 1 = omega arith in
    let front = take end xs ++ take k (drop (p - 1) xs) in
    let rest = drop (end + k) xs in
    let long : length front ≡ after = grind (arith, length-append, length-take-le, length-drop) in (
      take_at front rest after long ∙ rw (e, record-is xs p n (omega arith) high) refl,
      drop_at front rest after long ∙ rw e (rw is refl),
      grind (arith, length-append front rest, length-drop (end + k) xs, long),
    )
