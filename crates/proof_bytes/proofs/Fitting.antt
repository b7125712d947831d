-- Lists of which each element fits.
use Rattle.std.proofs.Common.{◌≡◌, ℕ, ◌+◌, ◌^◌, ◌<◌, true, List, [], ◌∷◌, ◌++◌, length, take, get_or, ltb, sym, ap, ◌∙◌, inl, inr, map}
use Rattle.std.specs.List.{AllByRecursion, list_all}
use Rattle.std.proofs.lemmas.Bool.{cases_lt, le-ltb, false≢true}
use Rattle.std.proofs.lemmas.List.{take_more}
use Rattle.std.proofs.lemmas.List.Folds.{list_all_at, list_all-map}
use Rattle.std.proofs.Math.ListN.{get_or-map}
use Rattle.std.proofs.lemmas.List.{length-map}
use Rattle.proof_bytes.specs.declared.format.Format.{Format}
use Rattle.proof_bytes.specs.declared.format.Format.TheVariants as formats
use Rattle.proof_bytes.specs.Spelling.{all_fit, IsHash}

all_append : {A : Type 0} (P : A → Type 0) (xs : List A) (x : A) → AllByRecursion P xs → P x → AllByRecursion P (xs ++ x ∷ [])
all_append P [] x all h = (h, tt)
all_append P (y ∷ xs) x all h = (all.0, all_append P xs x all.1 h)

-- one more
pub all_more : {A : Type 0} (P : A → Type 0) (xs : List A) (i : ℕ) (d : A) → i < length xs → AllByRecursion P (take i xs) → P (get_or xs i d) → AllByRecursion P (take (i + 1) xs)
all_more P xs i d lt all h = rw (take_more xs i d lt) (all_append P (take i xs) (get_or xs i d) all h)

-- a hash fits, where all do
pub fits_at : (format : Format) (hashes : List ℕ) (i d : ℕ) → i < length hashes → all_fit format hashes ≡ true → get_or hashes i d < 2 ^ 64 → IsHash format (get_or hashes i d)
fits_at (formats.Bytes width) hashes i d lt all h =
    elim (cases_lt (get_or hashes i d) (2 ^ width)) [
      | inl small ↦ small
      | inr large ↦ absurd (false≢true (sym (list_all_at (λ n. ltb n (2 ^ width)) hashes i d lt (le-ltb (get_or hashes i d) (2 ^ width) large)) ∙ all))
    ]
fits_at _ hashes i d lt all h = h

abbrev hash_of : ℕ × ℕ → ℕ
hash_of u = u.1

-- the hash of a unit, likewise
pub unit_fits_at : (format : Format) (units : List (ℕ × ℕ)) (i : ℕ) (d : ℕ × ℕ) → i < length units →
    all_fit format (map (λ u. u.1) units) ≡ true → (get_or units i d).1 < 2 ^ 64 → IsHash format (get_or units i d).1
unit_fits_at format units i d lt all h = rw (get_or-map hash_of units i d) at (fits_at format (map hash_of units) i d.1 (rw (length-map units hash_of) lt) all (rw (get_or-map hash_of units i d) h))

-- the test of all units at a width
pub units_fit_all : (format : Format) (width : ℕ) (units : List (ℕ × ℕ)) → format ≡ formats.Bytes width → all_fit format (map (λ u. u.1) units) ≡ list_all (λ (u : ℕ × ℕ). ltb u.1 (2 ^ width)) units
units_fit_all format width units e = ap (λ (f : Format). all_fit f (map hash_of units)) e ∙ list_all-map (λ n. ltb n (2 ^ width)) hash_of units
