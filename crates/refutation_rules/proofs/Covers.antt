-- An assignment of the formula meets a cube or the clauses against all of them.
use Rattle.std.proofs.lemmas.Bool.{false_from_ne_true}
use Rattle.std.proofs.Common.{◌≡◌, ℕ, Bool, true, false, not, List, [], ◌∷◌, ◌++◌, map, refl, arith}
use Rattle.std.proofs.lemmas.List.Folds.{list_all-append}
use Rattle.std.proofs.lemmas.List.Elements.{All-cons, All-head, All-nil, All-tail}
use Rattle.std.specs.List.{All}
use Rattle.sat_rules.specs.Clauses.{all_true, clause_true}
use Rattle.sat_rules.proofs.Chains.{lit_true-negate}
use Rattle.refutation_rules.specs.Cubes.{CubesCover, IsRefuted, clause_against, units_of}

-- all literals of the cube are true, or the clause against it is
against : (a : ℕ → Bool) (cube : List ℕ) → clause_true a (clause_against cube) ≡ not (all_true a (units_of cube))
against a [] = refl
against a (l ∷ ls) = grind (arith, lit_true-negate a l, against a ls)

-- where no cube is met, the clauses against all of them are true
uncovered : (a : ℕ → Bool) (cubes : List (List ℕ)) → All (λ cube. all_true a (units_of cube) ≡ false) cubes → all_true a (map clause_against cubes) ≡ true
uncovered a [] h = refl
uncovered a (q ∷ qs) h =
    grind (arith, against a q, All-head (λ cube. all_true a (units_of cube) ≡ false) q qs h, uncovered a qs (All-tail (λ cube. all_true a (units_of cube) ≡ false) q qs h))

unmet : (a : ℕ → Bool) (formula : List (List ℕ)) (cubes : List (List ℕ)) → all_true a formula ≡ true → All (λ cube. IsRefuted (formula ++ units_of cube)) cubes → All (λ cube. all_true a (units_of cube) ≡ false) cubes
unmet a formula [] t h = All-nil (λ cube. all_true a (units_of cube) ≡ false)
unmet a formula (q ∷ qs) t h =
    let part = All-head (λ cube. IsRefuted (formula ++ units_of cube)) q qs h in
    let rest = All-tail (λ cube. IsRefuted (formula ++ units_of cube)) q qs h in
    All-cons (λ cube. all_true a (units_of cube) ≡ false) q qs (grind (arith, t, part a, list_all-append (clause_true a) formula (units_of q))) (unmet a formula qs t rest)

pub covers : CubesCover
covers formula cubes parts cover a = false_from_ne_true (all_true a formula) (λ e.
    grind (arith, e, cover a, list_all-append (clause_true a) formula (map clause_against cubes), uncovered a cubes (unmet a formula cubes e parts)))
