-- What follows from a formula.
--     Follows cs ds      each assignment that satisfies the formula satisfies the claims
--     follow_clauses x cs ds      the formula, and some claim fails; by variables from x on
--     FollowsIsShown      where these clauses are refuted, the claims follow
--     FollowsIsAsked      where the claims follow, these clauses are refuted
use Rattle.std.specs.Prelude.{◌≡◌, ℕ, suc, ◌*◌, Bool, true, nat_lt, List, [], ◌∷◌, ◌++◌, map}
use Rattle.std.specs.List.{list_all}
use Rattle.sat_rules.specs.Clauses.{all_true, negate, var_of}
use Rattle.refutation_rules.specs.Cubes.{IsRefuted}

-- each assignment that satisfies the first formula satisfies the second
abbrev pub Follows : List (List ℕ) → List (List ℕ) → Type 0
Follows cs ds = (a : ℕ → Bool) → all_true a cs ≡ true → all_true a ds ≡ true

-- where the variable x is true, no literal of the clause is
abbrev pub selector_clauses : ℕ → List ℕ → List (List ℕ)
selector_clauses x d = map (λ l. negate (2 * x) ∷ negate l ∷ []) d

-- so for each clause, by a variable of its own from x on: its selector
abbrev pub all_selectors : ℕ → List (List ℕ) → List (List ℕ)
all_selectors x [] = []
all_selectors x (d ∷ ds) = selector_clauses x d ++ all_selectors (suc x) ds

-- the clause of these selectors
abbrev pub some_selector : ℕ → List (List ℕ) → List ℕ
some_selector x [] = []
some_selector x (d ∷ ds) = 2 * x ∷ some_selector (suc x) ds

-- the first formula, and some clause of the second one fails
abbrev pub follow_clauses : ℕ → List (List ℕ) → List (List ℕ) → List (List ℕ)
follow_clauses x cs ds = cs ++ (all_selectors x ds ++ some_selector x ds ∷ [])

-- all variables are before x
abbrev pub all_before : ℕ → List (List ℕ) → Bool
all_before x cs = list_all (list_all (λ l. nat_lt (var_of l) x)) cs

-- where these clauses are refuted, the second formula follows from the first
abbrev pub FollowsIsShown : Type 0
FollowsIsShown = (x : ℕ) (cs ds : List (List ℕ)) → all_before x cs ≡ true → all_before x ds ≡ true →
    IsRefuted (follow_clauses x cs ds) → Follows cs ds

-- where the second formula follows from the first, these clauses are refuted
abbrev pub FollowsIsAsked : Type 0
FollowsIsAsked = (x : ℕ) (cs ds : List (List ℕ)) → Follows cs ds → IsRefuted (follow_clauses x cs ds)
