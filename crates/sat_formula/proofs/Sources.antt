-- Bytes read ahead, one after the other.
use Rattle.std.proofs.Common.{◌≡◌, ℕ, suc, ◌+◌, ◌-◌, ◌<◌, ◌≤◌, List, [], ◌∷◌, ◌++◌, length, get_or, slice_range, Option}
use Rattle.std.proofs.Common.{Some, None, sym, ap, ◌∙◌, refl, arith, drop-cons, add-one, append_assoc, take, drop}
use Rattle.std.proofs.lemmas.List.{take-append-drop, drop-take, drop-drop}
use Rattle.std.specs.Option.{option_map}
use Rattle.std.specs.Prelude.{unwrap_or}
use Rattle.std.specs.Io.KnownBytes.{prepend_known, Consumes, Keeps}
use Rattle.sat_formula.specs.Readings.{Known}

consumes_front : (old known : Known) (front rest : List ℕ) (b : ℕ) → front ≡ b ∷ rest → Keeps old (prepend_known front known) → Consumes old (prepend_known rest known) (b ∷ [])
consumes_front None known front rest b e h = tt
consumes_front (Some x) None front rest b e h = absurd h
consumes_front (Some x) (Some y) front rest b e h = sym h ∙ ap (λ (l : List ℕ). l ++ y) e

first_of_range : (xs : List ℕ) (start end b : ℕ) → start < end → end ≤ length xs → b ≡ get_or xs start b → slice_range xs start end ≡ b ∷ slice_range xs (start + 1) end
first_of_range xs start end b lt le e =
    let inside : start < length xs = omega arith in
    let n : end - start ≡ suc (end - (start + 1)) = omega arith in
    rw (n, drop-cons xs start b inside, ← e, add-one) refl

-- one byte of those read ahead
pub byte_taken : (old known : Known) (xs : List ℕ) (start end b : ℕ) → start < end → end ≤ length xs → b ≡ get_or xs start b → Keeps old (prepend_known (slice_range xs start end) known)
    → Consumes old (prepend_known (slice_range xs (start + 1) end) known) (b ∷ [])
byte_taken old known xs start end b lt le e h = consumes_front old known (slice_range xs start end) (slice_range xs (start + 1) end) b (first_of_range xs start end b lt le e) h

-- the first this many of those read ahead, and the others
range_split : (xs : List ℕ) (start end n : ℕ) → n ≤ end - start → slice_range xs start end ≡ take n (slice_range xs start end) ++ slice_range xs (start + n) end
range_split xs start end n le =
    let e : end - start ≡ n + (end - (start + n)) = omega arith in
    let d : drop n (take (n + (end - (start + n))) (drop start xs)) ≡ slice_range xs (start + n) end = rw (drop-take, drop-drop) refl in
    sym (take-append-drop n (slice_range xs start end)) ∙ ap (λ (l : List ℕ). take n (slice_range xs start end) ++ l) (ap (λ k. drop n (take k (drop start xs))) e ∙ d)

-- this many bytes of those read ahead
pub bytes_taken : (known : Known) (xs : List ℕ) (start end n : ℕ) → n ≤ end - start
    → Consumes (prepend_known (slice_range xs start end) known) (prepend_known (slice_range xs (start + n) end) known) (take n (slice_range xs start end))
bytes_taken None xs start end n le = tt
bytes_taken (Some y) xs start end n le = ap (λ (l : List ℕ). l ++ y) (range_split xs start end n le) ∙ append_assoc (take n (slice_range xs start end)) (slice_range xs (start + n) end) y

-- and the room that is left
pub room_taken : (left : Option ℕ) (start end n : ℕ) → n ≤ end - start
    → option_map (λ l. (end - start) + l) left ≡ option_map (λ l. n + l) (option_map (λ l. (end - (start + n)) + l) left)
room_taken None start end n le = refl
room_taken (Some l) start end n le = let e : (end - start) + l ≡ n + ((end - (start + n)) + l) = omega arith in ap (λ (k : ℕ). Some k) e

-- a byte takes one from the room
pub room_less : (old new : Option ℕ) (n : ℕ) → old ≡ option_map suc new → old ≡ Some n → (m : ℕ) × (new ≡ Some m) × (n ≡ suc m)
room_less old new n h e = grind arith

pub room_falls : (old new : Option ℕ) (n : ℕ) → old ≡ option_map suc new → old ≡ Some n → unwrap_or new 0 < unwrap_or old 0
room_falls old new n h e = grind arith
