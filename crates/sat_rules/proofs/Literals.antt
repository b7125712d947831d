-- Literals of one variable, and an assignment that differs at one.
use Rattle.std.proofs.Common.{◌≡◌, ◌⊎◌, ℕ, Bool, false, cond, not, eqb, ap, arith}
use Rattle.sat_rules.specs.Clauses.{flip, is_negative, lit_true, negate, var_of}

pub same_var_codes : (l m : ℕ) → var_of l ≡ var_of m → (l ≡ m) ⊎ (m ≡ negate l)
same_var_codes l m e = grind arith

pub lit_true-flip : (a : ℕ → Bool) (x m : ℕ) → eqb (var_of m) x ≡ false → lit_true (flip a x) m ≡ lit_true a m
lit_true-flip a x m h = ap (λ b. cond (is_negative m) (not (cond b (not (a (var_of m))) (a (var_of m)))) (cond b (not (a (var_of m))) (a (var_of m)))) h

pub flip_here : (a : ℕ → Bool) (x : ℕ) → flip a x x ≡ not (a x)
flip_here a x = grind arith
