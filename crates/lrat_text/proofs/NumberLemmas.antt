-- The value of digits, one after the other.
use Rattle.std.proofs.Common.{arith, ◌≡◌, ℕ, ◌^◌, ◌<◌, ◌≤◌, Bool, true, false, List, [], ◌∷◌, length, drop, Some, refl, sym, ap, ◌∙◌}
use Rattle.std.proofs.lemmas.List.{drop_all}
use Rattle.sat_formula.specs.Lines.{value_from, value_of}
use Rattle.lrat_text.specs.declared.number.Number.TheVariants.{Exact}
use Rattle.lrat_text.specs.Numbers.{judged}

-- what is kept of the value of the digits so far: the value, or that it has more than 64 bits
abbrev pub IsKept : Bool → ℕ → ℕ → Type 0
IsKept false kept value = kept ≡ value
IsKept true kept value = 2 ^ 64 ≤ value

-- of the digits, these are still to be read
pub record SoFar (digits left : List ℕ) (kept : ℕ) (large : Bool) : Type 0 where
  pub value : ℕ
  pub same : value_from 0 digits ≡ value_from value left
  pub is_kept : IsKept large kept value

-- a value that fits, and is not -0
pub judged-exact : (negative : Bool) (v : ℕ) → v < 2 ^ 64 → (negative ≡ true → v ≡ 0 → ⊥) → judged negative (Some v) ≡ Exact negative v
judged-exact negative v fits some = grind arith

-- all digits were read
pub value_of-read : (digits : List ℕ) (n kept : ℕ) → SoFar digits (drop n digits) kept false → length digits ≤ n → (digits ≡ [] → ⊥) → value_of digits ≡ Some kept
value_of-read [] n kept p all some = absurd (some refl)
value_of-read (d ∷ digits) n kept p all some = p.same ∙ ap (value_from p.value) (drop_all n (d ∷ digits) all) ∙ ap (λ (v : ℕ). Some v) (sym p.is_kept)
