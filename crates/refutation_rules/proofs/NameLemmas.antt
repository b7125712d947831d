-- Literals after all variables can be set at will.
use Rattle.std.proofs.Common.{◌≡◌, ℕ, zero, suc, ◌+◌, ◌-◌, ◌*◌, ◌%◌, Bool, true, cond, not, ◌&&◌, ◌||◌, eqb, nat_lt, List, [], ◌∷◌, refl, ap, ◌∙◌, arith}
use Rattle.std.specs.List.{list_all}
use Rattle.std.proofs.lemmas.Bool.{le-ltb}
use Rattle.sat_rules.specs.Clauses.{all_true, clause_true, is_negative, lit_true, var_of}
use Rattle.refutation_rules.specs.Sessions.{lits_true}
use Rattle.refutation_rules.specs.Rounds.{AreFree, Round, SessionsFail, all_below, guard, is_below, meets, pick}
use Rattle.refutation_rules.proofs.RoundLemmas.{rounds_fail}

-- at the k-th place after n: the guards up to d, and the pick of d
above : ℕ → ℕ → Bool
above d k = eqb k (2 * d + 1) || (nat_lt k (2 * d + 1) && eqb (k % 2) 0)

chosen : ℕ → ℕ → (ℕ → Bool) → ℕ → Bool
chosen n d a x = cond (nat_lt x n) (a x) (above d (x - n))

at_below : (n d : ℕ) (a : ℕ → Bool) (x : ℕ) → nat_lt x n ≡ true → chosen n d a x ≡ a x
unfolding chosen
at_below n d a x h = ap (λ t. cond t (a x) (above d (x - n))) h

at_above : (n d : ℕ) (a : ℕ → Bool) (k : ℕ) → chosen n d a (n + k) ≡ above d k
unfolding chosen
at_above n d a k = let e : n + k - n ≡ k = omega arith in rw (le-ltb (n + k) n (omega arith), e)

positive : (b : ℕ → Bool) (v : ℕ) → lit_true b (2 * v) ≡ b v
positive b v = grind arith

named : (n d : ℕ) (a : ℕ → Bool) (k : ℕ) → lit_true (chosen n d a) (2 * (n + k)) ≡ above d k
named n d a k = positive (chosen n d a) (n + k) ∙ at_above n d a k

same_lit : (n d : ℕ) (a : ℕ → Bool) (l : ℕ) → nat_lt (var_of l) n ≡ true → lit_true (chosen n d a) l ≡ lit_true a l
same_lit n d a l h = ap (λ v. cond (is_negative l) (not v) v) (at_below n d a (var_of l) h)

same_any : (n d : ℕ) (a : ℕ → Bool) (c : List ℕ) → is_below n c ≡ true → clause_true (chosen n d a) c ≡ clause_true a c
same_any n d a [] h = refl
same_any n d a (l ∷ ls) h = grind (arith, same_lit n d a l, same_any n d a ls)

same_all : (n d : ℕ) (a : ℕ → Bool) (c : List ℕ) → is_below n c ≡ true → lits_true (chosen n d a) c ≡ lits_true a c
same_all n d a [] h = refl
same_all n d a (l ∷ ls) h = grind (arith, same_lit n d a l, same_all n d a ls)

same_clauses : (n d : ℕ) (a : ℕ → Bool) (cs : List (List ℕ)) → list_all (is_below n) cs ≡ true → all_true (chosen n d a) cs ≡ all_true a cs
same_clauses n d a [] h = refl
same_clauses n d a (c ∷ cs) h = grind (arith, same_any n d a c, same_clauses n d a cs)

same_meets : (n d : ℕ) (a : ℕ → Bool) (e : ℕ) (rs : List Round) → all_below n rs ≡ true → meets (chosen n d a) e rs ≡ meets a e rs
same_meets n d a e [] h = refl
same_meets n d a zero (x ∷ xs) h = grind (arith, same_clauses n d a x.clauses, same_all n d a x.core)
same_meets n d a (suc e) (x ∷ xs) h = grind (arith, same_clauses n d a x.clauses, same_meets n d a e xs)

names_free : (n : ℕ) (rs : List Round) → all_below n rs ≡ true → AreFree (guard n) (pick n) rs
unfolding above
names_free n rs h a d m = (
  chosen n d a,
  same_meets n d a d rs h ∙ m,
  record {
    on = λ r k. named n d a (2 * r) ∙ grind arith;
    off = λ r k. named n d a (2 * r) ∙ grind arith;
    one = named n d a (2 * d + 1) ∙ grind arith;
    others = λ r k. named n d a (2 * r + 1) ∙ grind arith;
  },
)

pub sessions_fail : SessionsFail
sessions_fail n rs h = rounds_fail (guard n) (pick n) rs (names_free n rs h)
