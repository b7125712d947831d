-- What the first bytes show of the ids.
use Rattle.std.proofs.Common.{◌≡◌, ℕ, suc, ◌+◌, ◌<◌, ◌≤◌, Bool, true, List, ◌∷◌, length, get_or, drop, refl, sym, ap, ◌∙◌, add-one, drop-cons}
use Rattle.std.proofs.lemmas.List.{drop_all}
use Rattle.lrat_binary.specs.Telling.{are_doubled, seen_at}
use Rattle.lrat_binary.specs.declared.telling.Seen.{Seen}
use Rattle.lrat_binary.specs.declared.telling.Seen.TheVariants.{Later, Told}
use Rattle.lrat_binary.specs.declared.telling.Sight.{Sight}

-- what a byte showed, and the bytes after it
then_doubled : ℕ → List ℕ → Seen → Bool
then_doubled next bs s = elim s [
  | Later later ↦ are_doubled next later bs
  | Told answer ↦ answer
]

one_byte : (next : ℕ) (sight : Sight) (b : ℕ) (bs : List ℕ) → are_doubled next sight (b ∷ bs) ≡ then_doubled next bs (seen_at next sight b)
unfolding are_doubled then_doubled
one_byte next sight b bs = refl

module _ (next : ℕ) (first : List ℕ) (i : ℕ) (sight : Sight) where
  byte_seen : i < length first → are_doubled next sight (drop i first) ≡ then_doubled next (drop (suc i) first) (seen_at next sight (get_or first i 0))
  byte_seen lt = ap (λ (bs : List ℕ). are_doubled next sight bs) (drop-cons first i 0 lt) ∙ one_byte next sight (get_or first i 0) (drop (suc i) first)

  pub byte_later : (later : Sight) → i < length first → Later later ≡ seen_at next sight (get_or first i 0) → are_doubled next sight (drop i first) ≡ are_doubled next later (drop (i + 1) first)
  unfolding then_doubled
  byte_later later lt e = rw add-one (byte_seen lt ∙ ap (λ (s : Seen). then_doubled next (drop (suc i) first) s) (sym e))

  pub byte_told : (answer : Bool) → i < length first → Told answer ≡ seen_at next sight (get_or first i 0) → are_doubled next sight (drop i first) ≡ answer
  unfolding then_doubled
  byte_told answer lt e = byte_seen lt ∙ ap (λ (s : Seen). then_doubled next (drop (suc i) first) s) (sym e)

  pub none_left : length first ≤ i → are_doubled next sight (drop i first) ≡ true
  unfolding are_doubled
  none_left h = ap (λ (bs : List ℕ). are_doubled next sight bs) (drop_all i first h)
