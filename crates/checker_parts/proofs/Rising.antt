-- Lists whose variables rise are canonical, and no tautologies.
use Rattle.std.proofs.Common.{◌≡◌, ℕ, ◌<◌, Bool, true, false, ◌&&◌, ltb, List, [], ◌∷◌, length, drop, refl, sym, ap, ◌∙◌, arith}
use Rattle.std.specs.List.{list_all}
use Rattle.std.proofs.lemmas.Bool.Decides.{nat_tests}
use Rattle.std.proofs.lemmas.List.{at_drop_all}
use Rattle.sat_rules.specs.Clauses.{is_canonical, is_tautology, var_of}
use Rattle.checker_rules.specs.Canonical.{canonical}
use Rattle.checker_parts.specs.RisingVars.{has_rising_vars}
use Rattle.checker_parts.proofs.CanonicalLists.{canonical_from, shares_var, shares_var-canonical}

all_above : (k m : ℕ) (ms : List ℕ) → k < m → has_rising_vars (m ∷ ms) ≡ true → list_all (ltb k) (m ∷ ms) ≡ true
all_above k m [] lt h = grind (arith, nat_tests)
all_above k m (n ∷ ns) lt h = grind (arith, nat_tests, all_above k n ns)

pub rising_canonical : (c : List ℕ) → has_rising_vars c ≡ true → is_canonical c ≡ true
rising_canonical [] h = refl
rising_canonical (l ∷ []) h = refl
rising_canonical (l ∷ m ∷ ms) h = grind (arith, nat_tests, all_above, rising_canonical (m ∷ ms))

rising_apart : (c : List ℕ) → has_rising_vars c ≡ true → shares_var c ≡ false
rising_apart [] h = refl
rising_apart (l ∷ []) h = refl
rising_apart (l ∷ m ∷ ms) h = grind (arith, nat_tests, rising_apart (m ∷ ms))

-- a canonical list is its own
pub canonical_itself : (c : List ℕ) → is_canonical c ≡ true → c ≡ canonical c
canonical_itself c h = canonical_from c c h (λ x. refl)

pub rising_is : (c : List ℕ) → has_rising_vars c ≡ true → c ≡ canonical c
rising_is c h = canonical_itself c (rising_canonical c h)

pub rising_sound : (c : List ℕ) → has_rising_vars c ≡ true → false ≡ is_tautology (canonical c)
rising_sound c h = sym (rising_apart c h) ∙ shares_var-canonical c (rising_canonical c h) ∙ ap is_tautology (rising_is c h)

-- whether the variables rise, also above this one
abbrev pub rises_after : ℕ → List ℕ → Bool
rises_after v [] = true
rises_after v (m ∷ ms) = ltb v (var_of m) && rises_after (var_of m) ms

pub rises_after-is : (l : ℕ) (ms : List ℕ) → rises_after (var_of l) ms ≡ has_rising_vars (l ∷ ms)
rises_after-is l [] = refl
rises_after-is l (m ∷ ms) = ap (λ b. ltb (var_of l) (var_of m) && b) (rises_after-is m ms)

module _ (v : ℕ) (c : List ℕ) (i : ℕ) where
  pub rises_after-end : i ≡ length c → rises_after v (drop i c) ≡ true
  rises_after-end e = at_drop_all (rises_after v) c i (omega (arith, e))
