-- The literals of a clause that are not false, found from the last one on.
use Rattle.std.proofs.Common.{arith, ◌≡◌, ℕ, Bool, true, false, cond, not, ◌&&◌, eqb, List, [], ◌∷◌, ◌++◌, refl, sym, ap, eq-eqb}
use Rattle.std.specs.List.{list_all}
use Rattle.std.proofs.lemmas.Bool.{and_parts, eqb-false, eqb-true, false_from_ne_true}
use Rattle.sat_rules.specs.Clauses.{is_falsified, negate, unfalsified}
use Rattle.lrat_rules.specs.Causes.{not_unit}
use Rattle.lrat_rules.specs.Propagation.{Ending, by_left, stuck}

-- a false literal at the end is passed over
pub unfalsified-false : (s : ℕ → Bool) (c : List ℕ) (m : ℕ) → s (negate m) ≡ true → unfalsified s (c ++ m ∷ []) ≡ unfalsified s c
unfalsified-false s [] m f = ap (λ b. cond (not b) (m ∷ []) []) f
unfalsified-false s (k ∷ c) m f = ap (λ u. cond (not (s (negate k))) (k ∷ u) u) (unfalsified-false s c m f)

-- where all are false, none is left
pub all_false : (s : ℕ → Bool) (c : List ℕ) → is_falsified s c ≡ true → unfalsified s c ≡ []
all_false s [] all = refl
all_false s (k ∷ c) all = grind (arith, all_false s c)

-- where all are as the first one, the last is
last_as_first : (x l : ℕ) (v : List ℕ) → list_all (eqb x) (v ++ l ∷ []) ≡ true → x ≡ l
last_as_first x l [] all = let parts = and_parts _ _ all in eqb-true x l parts.0
last_as_first x l (k ∷ v) all = let parts = and_parts _ _ all in last_as_first x l v parts.1

-- one literal is left, perhaps repeated, or more are
pub left_of : (v : List ℕ) (l : ℕ) (none : Ending) (one : ℕ → Ending) → by_left (v ++ l ∷ []) none one ≡ cond (list_all (eqb l) (v ++ l ∷ [])) (one l) (stuck not_unit)
left_of [] l none one = ap (λ b. cond (b && true) (one l) (stuck not_unit)) (sym (eq-eqb l l refl))
left_of (x ∷ v) l none one = go (eqb l x) refl
  where
    go : (c : Bool) → eqb l x ≡ c → cond (list_all (eqb x) (v ++ l ∷ [])) (one x) (stuck not_unit) ≡ cond (c && list_all (eqb l) (v ++ l ∷ [])) (one l) (stuck not_unit)
    go true same = ap (λ k. cond (list_all (eqb k) (v ++ l ∷ [])) (one k) (stuck not_unit)) (sym (eqb-true l x same))
    go false other = rw (false_from_ne_true (list_all (eqb x) (v ++ l ∷ [])) (λ e. eqb-false l x other (sym (last_as_first x l v e)))) refl
