-- What an application asked of a solver and what it answered, and when all of it is true. Nothing here
-- speaks of a proof.
--     Told      an answer: some values that satisfy, assumptions that fail together, or none
--     Event      a clause is given;  a query under assumptions is answered
--     IsTrue clauses assumed told      the answer is true of these clauses and assumptions
--     AllTrue clauses events      each answer is true of these clauses and those given before it
--     AllMet clauses events      each satisfied query has a model, each core is of what was assumed
use Rattle.std.specs.Prelude.{◌≡◌, ℕ, Bool, true, List, [], ◌∷◌}
use Rattle.std.specs.List.{list_all}
use Rattle.sat_rules.specs.Clauses.{all_true, has, lit_true}

-- some values that satisfy, or assumptions that fail together;  nothing
pub data Told : Type 0 where
  satisfiable unsatisfiable : (lits : List ℕ) → Told
  unknown : Told

-- a clause is given;  a query is answered
pub data Event : Type 0 where
  given : (clause : List ℕ) → Event
  asked : (assumed : List ℕ) → (told : Told) → Event

-- all literals are true
abbrev pub lits_true : (ℕ → Bool) → List ℕ → Bool
lits_true a lits = list_all (lit_true a) lits

-- each literal of the first list is in the second
abbrev pub all_in : List ℕ → List ℕ → Bool
all_in ls ms = list_all (λ l. has l ms) ls

-- an assignment satisfies the clauses, the assumptions and the values
pub record Satisfies (clauses : List (List ℕ)) (assumed values : List ℕ) : Type 0 where
  pub found : ℕ → Bool
  pub clauses_true : all_true found clauses ≡ true
  pub assumed_true : lits_true found assumed ≡ true
  pub values_true : lits_true found values ≡ true

-- the core was assumed, and no assignment that satisfies the clauses makes all of it true
pub record Fails (clauses : List (List ℕ)) (assumed core : List ℕ) : Type 0 where
  pub part : all_in core assumed ≡ true
  pub fails : (a : ℕ → Bool) → all_true a clauses ≡ true → lits_true a core ≡ true → ⊥

-- the answer is true of the clauses and the assumptions
abbrev pub IsTrue : List (List ℕ) → List ℕ → Told → Type 0
IsTrue clauses assumed (satisfiable values) = Satisfies clauses assumed values
IsTrue clauses assumed (unsatisfiable core) = Fails clauses assumed core
IsTrue clauses assumed unknown = Unit {0}

-- each answer is true of the clauses before it
abbrev pub AllTrue : List (List ℕ) → List Event → Type 0
AllTrue clauses [] = Unit {0}
AllTrue clauses (given c ∷ es) = AllTrue (c ∷ clauses) es
AllTrue clauses (asked assumed told ∷ es) = IsTrue clauses assumed told × AllTrue clauses es

-- what is asked of an answer by itself: a model, or that the core was assumed
abbrev pub IsMet : List (List ℕ) → List ℕ → Told → Type 0
IsMet clauses assumed (satisfiable values) = Satisfies clauses assumed values
IsMet clauses assumed (unsatisfiable core) = all_in core assumed ≡ true
IsMet clauses assumed unknown = Unit {0}

-- each answer is met over the clauses before it
abbrev pub AllMet : List (List ℕ) → List Event → Type 0
AllMet clauses [] = Unit {0}
AllMet clauses (given c ∷ es) = AllMet (c ∷ clauses) es
AllMet clauses (asked assumed told ∷ es) = IsMet clauses assumed told × AllMet clauses es
