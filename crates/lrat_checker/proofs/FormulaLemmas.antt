-- Clauses of a formula, given one after the other.
use Rattle.std.proofs.Common.{◌≡◌, ℕ, suc, ◌+◌, ◌<◌, ◌≤◌, cond, List, [], ◌∷◌, ◌++◌, length, Option, Some, None, refl, ap, ◌∙◌, arith}
use Rattle.std.specs.Prelude.{◌||◌, ◌==◌}
use Rattle.std.proofs.lemmas.Bool.{ne_eqb}
use Rattle.sat_formula.specs.Outcome.{Ended, Outcome}
use Rattle.sat_formula.specs.Whole.{BeginsWith}
use Rattle.lrat_rules.specs.Lines.{has_empty}
use Rattle.lrat_rules.specs.Tables.{Table, empty_table, formula_table, put, put_from}

put_more : (n : ℕ) (cs : List (List ℕ)) (c : List ℕ) (t : Table) → put_from n (cs ++ c ∷ []) t ≡ put (n + length cs) c (put_from n cs t)
put_more n [] c t = ap (λ k. put k c t) (omega arith)
put_more n (d ∷ cs) c t = put_more (suc n) cs c (put n d t) ∙ ap (λ k. put k c (put_from (suc n) cs (put n d t))) (omega arith)

-- one more clause
pub formula_more : (cs : List (List ℕ)) (c : List ℕ) → formula_table (cs ++ c ∷ []) ≡ put (length cs + 1) c (formula_table cs)
formula_more cs c = put_more 1 cs c empty_table ∙ ap (λ k. put k c (formula_table cs)) (omega arith)

put_past : (n : ℕ) (cs : List (List ℕ)) (t : Table) (k : ℕ) → n + length cs ≤ k → (put_from n cs t).named k ≡ t.named k
put_past n [] t k w = refl
put_past n (c ∷ cs) t k w =
    put_past (suc n) cs (put n c t) k (omega (arith, w)) ∙ ap (λ b. cond b (Some c) (t.named k)) (ne_eqb k n (λ e. omega (arith, w, e)))

-- the ids after those of a formula name nothing
pub formula_past : (cs : List (List ℕ)) (k : ℕ) → length cs < k → (formula_table cs).named k ≡ None
formula_past cs k w = put_past 1 cs empty_table k (omega (arith, w))

-- whether it is empty
pub empty_more : (cs : List (List ℕ)) (c : List ℕ) → has_empty (cs ++ c ∷ []) ≡ (has_empty cs || has_empty (c ∷ []))
empty_more [] c = refl
empty_more ([] ∷ cs) c = refl
empty_more ((l ∷ ls) ∷ cs) c = empty_more cs c

pub empty_is : (c : List ℕ) → (length c == 0) ≡ has_empty (c ∷ [])
empty_is [] = refl
empty_is (l ∷ ls) = ne_eqb (length (l ∷ ls)) 0 (λ e. omega (arith, e))

-- an outcome begins with no clause
pub begins_anyhow : (known : Option Outcome) → BeginsWith known []
begins_anyhow None = (([], Ended), tt)
begins_anyhow (Some o) = (o, refl)
