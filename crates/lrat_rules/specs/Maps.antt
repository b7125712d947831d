-- The map from ids to sets of literals decides every check, in whatever order clauses and literals are kept.
--     ids_once st      no id occurs twice
--     SameMap st su      under every id a clause with the same literals
--     MetByMap, MapDecides, AdmittedIsRup      the laws
use Rattle.std.specs.Prelude.{◌≡◌, ◌↔◌, ℕ, Bool, true, ◌&&◌, if◌then◌else◌, List, [], ◌∷◌, map, Option, Some, None, is_none}
use Rattle.std.specs.List.{list_all}
use Rattle.sat_rules.specs.Clauses.{has}
use Rattle.sat_rules.specs.Named.{IsAdmitted, Item}
use Rattle.lrat_rules.specs.Groups.{Group, group_for, is_met, rest_met, without}
use Rattle.lrat_rules.specs.Lines.{Hint, Line, along, by_rup, run, step}
use Rattle.lrat_rules.specs.Stores.{find, formula_store, without_ids}

-- no id occurs twice
abbrev pub ids_once : List Item → Bool
ids_once [] = true
ids_once (x ∷ st) = is_none (find st x.id) && ids_once st

-- two clauses with the same literals, in any order and number
abbrev pub SameLits : List ℕ → List ℕ → Type 0
SameLits c d = (l : ℕ) → has l c ≡ has l d

-- neither is there, or both with the same literals
abbrev pub SameNamed : Option (List ℕ) → Option (List ℕ) → Type 0
SameNamed None None = Unit {0}
SameNamed None (Some d) = ⊥
SameNamed (Some c) None = ⊥
SameNamed (Some c) (Some d) = SameLits c d

-- under every id a clause with the same literals
abbrev pub SameMap : List Item → List Item → Type 0
SameMap st su = (i : ℕ) → SameNamed (find st i) (find su i)

-- both lines are rejected, or both accepted with the same map
abbrev pub SameStep : Option (List Item) → Option (List Item) → Type 0
SameStep None None = Unit {0}
SameStep None (Some su) = ⊥
SameStep (Some st) None = ⊥
SameStep (Some st) (Some su) = SameMap st su

-- every candidate passes exactly where each clause with n that an id names passes with its group
abbrev pub MetByMap : Type 0
MetByMap = (st : List Item) (s : ℕ → Bool) (n : ℕ) (gs : List Group) → ids_once st ≡ true →
    (list_all (is_met st s n gs) st ≡ true) ↔
    ((i : ℕ) (d : List ℕ) → find st i ≡ Some d → has n d ≡ true →
    rest_met (find st) s (without n d) (group_for i gs) ≡ true)

-- what depends on the map alone
pub record MapDecides : Type 0 where
  -- from a formula on, no id occurs twice
  pub once : (formula : List (List ℕ)) (su : List Item) (ls : List Line) →
      run (formula_store formula) ls ≡ Some su → ids_once su ≡ true
  -- stores with the same map accept the same lines, and have the same map after them
  pub same_rup : (st su : List Item) → SameMap st su → (c : List ℕ) (hs : List Hint) →
      by_rup st c hs ≡ by_rup su c hs
  pub same_step : (st su : List Item) → SameMap st su → ids_once st ≡ true → ids_once su ≡ true →
      (l : Line) → SameStep (step st l) (step su l)
  -- the map after a clause is stored, its literals in any order, and after a deletion
  pub stored : (st su : List Item) → SameMap st su → (i : ℕ) (c d : List ℕ) → SameLits c d →
      SameMap (record { id = i; lits = c } ∷ st) (record { id = i; lits = d } ∷ su)
  pub deleted : (st : List Item) (is : List ℕ) (k : ℕ) →
      find (without_ids is st) k ≡ (if has k is then None else find st k)

-- hints that the hint machine admits are accepted as a line without groups
abbrev pub AdmittedIsRup : Type 0
AdmittedIsRup = (st : List Item) (c ids : List ℕ) → IsAdmitted (find st) c ids →
    by_rup st c (map along ids) ≡ true
