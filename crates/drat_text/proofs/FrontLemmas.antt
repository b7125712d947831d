-- Bytes that are looked at before they are taken.
use Rattle.std.proofs.Common.{◌≡◌, ℕ, ◌+◌, ◌≤◌, ◌<◌, List, Option, None, Some, IfSome, Bool, true, false, refl, sym, ap, ◌∙◌, length, take, get_or, arith}
use Rattle.std.specs.Prelude.{slice_get, ◌&&◌}
use Rattle.std.specs.List.{list_all}
use Rattle.std.proofs.lemmas.List.{length-take, get_or-take, take_all}
use Rattle.std.proofs.lemmas.List.Folds.{list_all_more, list_all_at}
use Rattle.std.proofs.lemmas.Option.{slice_get_cases, slice_get_within, get_or_from_slice_get}

abbrev pub Known : Type 0
Known = Option (List ℕ)

-- a place without a byte
pub ends_before : (bytes : List ℕ) (place : ℕ) → slice_get bytes place ≡ None → length bytes ≤ place
ends_before bytes place e = grind (arith, slice_get_cases bytes place, e)

-- ---- a test of the first bytes

module _ (p : ℕ → Bool) where
  -- the bytes up to a place pass
  abbrev pub Passes : Known → ℕ → Type 0
  Passes a place = IfSome a (λ bytes. list_all p (take place bytes) ≡ true)

  pub passes_more : (a : Known) (place x : ℕ) → Passes a place → IfSome a (λ bytes. slice_get bytes place ≡ Some x) → p x ≡ true → Passes a (place + 1)
  passes_more None place x all at ok = tt
  passes_more (Some bytes) place x all at ok =
      let last : (list_all p (take place bytes) && p (get_or bytes place x)) ≡ true = rw (all, get_or_from_slice_get bytes place x x at, ok) refl in
      list_all_more p bytes place x (slice_get_within bytes place x at) ∙ last

  pub passes_all : (a : Known) (place most : ℕ) → place ≤ most → Passes a place → IfSome a (λ bytes. slice_get bytes place ≡ None) → Passes a most
  passes_all None place most le all at = tt
  passes_all (Some bytes) place most le all at =
      let short : length bytes ≤ place = ends_before bytes place at in
      ap (list_all p) (take_all most bytes (omega (arith, le, short)) ∙ sym (take_all place bytes short)) ∙ all

  pub fails_at : (a : Known) (place most x : ℕ) → place < most → IfSome a (λ bytes. slice_get bytes place ≡ Some x) → p x ≡ false →
      IfSome a (λ bytes. list_all p (take most bytes) ≡ false)
  fails_at None place most x lt at fails = tt
  fails_at (Some bytes) place most x lt at fails =
      let within : place < length bytes = slice_get_within bytes place x at in
      list_all_at p (take most bytes) place x (omega (arith, length-take most bytes, within, lt))
      (ap p (get_or-take most bytes place x lt ∙ get_or_from_slice_get bytes place x x at) ∙ fails)
