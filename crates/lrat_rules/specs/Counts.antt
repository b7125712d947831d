-- Counting in place of searching: groups that meet a literal as often as it is stored leave no clause out.
--     count_of n c, uses n st      how often a literal occurs in a clause;  in all stored clauses
--     name_holders n st ds      each id names a stored clause with the literal, no id twice
--     CountsCover      the law
use Rattle.std.specs.Prelude.{◌≡◌, ℕ, ◌+◌, ◌≤◌, Bool, true, false, not, ◌&&◌, ◌==◌, if◌then◌else◌, List, [], ◌∷◌, Option, Some, None}
use Rattle.sat_rules.specs.Clauses.{has}
use Rattle.sat_rules.specs.Named.{Item}
use Rattle.lrat_rules.specs.Stores.{find}

-- how often the literal occurs in the clause
abbrev pub count_of : ℕ → List ℕ → ℕ
count_of n [] = 0
count_of n (l ∷ ls) = (if n == l then 1 else 0) + count_of n ls

-- how often the literal occurs in stored clauses
abbrev pub uses : ℕ → List Item → ℕ
uses n [] = 0
uses n (x ∷ st) = count_of n x.lits + uses n st

-- by the clause of an id, where it is there
abbrev pub count_in : ℕ → Option (List ℕ) → ℕ
count_in n None = 0
count_in n (Some c) = count_of n c

-- how often the literal occurs in the clauses of the ids
abbrev pub uses_by : ℕ → List Item → List ℕ → ℕ
uses_by n st [] = 0
uses_by n st (d ∷ ds) = count_in n (find st d) + uses_by n st ds

-- whether no id occurs twice in the list
abbrev pub all_once : List ℕ → Bool
all_once [] = true
all_once (d ∷ ds) = not (has d ds) && all_once ds

-- whether the clause is there and holds the literal
abbrev pub is_holder : ℕ → Option (List ℕ) → Bool
is_holder n None = false
is_holder n (Some c) = has n c

-- the clauses of distinct ids never hold the literal more often, and where they hold it as often, every stored clause with the literal is among them
abbrev pub CountsCover : Type 0
CountsCover = (st : List Item) (n : ℕ) (ds : List ℕ) → all_once ds ≡ true → record {
  never_more : uses_by n st ds ≤ uses n st;
  all_named : uses n st ≤ uses_by n st ds → (i : ℕ) → is_holder n (find st i) ≡ true →
      has i ds ≡ true;
}
