-- The formula for the solver: the clauses so far and those still to come, and what it shows once it is refuted.
use Rattle.std.proofs.Common.{◌≡◌, ℕ, ◌+◌, ◌<◌, ◌≤◌, true, nat_lt, List, [], ◌∷◌, ◌++◌, refl, arith}
use Rattle.std.specs.Prelude.{fold, max}
use Rattle.std.specs.List.{list_all}
use Rattle.std.proofs.lemmas.Bool.Decides.{nat_tests}
use Rattle.sat_rules.specs.Clauses.{var_of}
use Rattle.sat_formula.specs.Formula.{var_count_of, vars_with}
use Rattle.refutation_rules.specs.Cubes.{IsRefuted}
use Rattle.refutation_rules.specs.Follows.{Follows, all_before, all_selectors, some_selector}
use Rattle.refutation_rules.proofs.Selectors.{follows_is_shown}
use Rattle.follows_check.specs.Questions.{asks, first_free}

-- ---- variables

vars_at_least : (count : ℕ) (c : List ℕ) → count ≤ vars_with count c
vars_at_least count [] = omega arith
vars_at_least count (l ∷ ls) = omega (arith, vars_at_least (max count (var_of l + 1)) ls)

clause_before : (count x : ℕ) (c : List ℕ) → vars_with count c ≤ x → list_all (λ l. nat_lt (var_of l) x) c ≡ true
clause_before count x [] h = refl
clause_before count x (l ∷ ls) h =
    let most = max count (var_of l + 1) in
    let low : var_of l < x = omega (arith, vars_at_least most ls, h) in
    grind (arith, nat_tests, low, clause_before most x ls h)

all_at_least : (count : ℕ) (cs : List (List ℕ)) → count ≤ fold vars_with count cs
all_at_least count [] = omega arith
all_at_least count (c ∷ cs) = omega (arith, vars_at_least count c, all_at_least (vars_with count c) cs)

clauses_before : (count x : ℕ) (cs : List (List ℕ)) → fold vars_with count cs ≤ x → all_before x cs ≡ true
clauses_before count x [] h = refl
clauses_before count x (c ∷ cs) h =
    let one : vars_with count c ≤ x = omega (arith, all_at_least (vars_with count c) cs, h) in
    grind (arith, clause_before count x c one, clauses_before (vars_with count c) x cs h)

-- where the formula that is asked is refuted, the claims follow
pub follows_by : (formula claims asked : List (List ℕ)) → asks formula claims asked → IsRefuted asked → Follows formula claims
follows_by formula claims asked e refuted =
    let x = first_free formula claims in
    let low : var_count_of formula ≤ x = omega arith in
    let low_too : var_count_of claims ≤ x = omega arith in
    follows_is_shown x formula claims (clauses_before 0 x formula low) (clauses_before 0 x claims low_too) (rw e at refuted)

-- ---- clause after clause

-- the clauses so far, with those of the selectors still to come, are the whole formula
abbrev pub IsSoFar : List (List ℕ) → List ℕ → ℕ → List (List ℕ) → List (List ℕ) → Type 0
IsSoFar formula selectors x left whole = formula ++ (all_selectors x left ++ (selectors ++ some_selector x left) ∷ []) ≡ whole
