-- A session as one formula, for a checker that knows formulas alone. A round is some clauses, and a
-- core that fails over them and those of all rounds before.
--     encoded g p rs      the formula: g r guards the clauses up to round r, p r picks its core
--     meets a d rs      the clauses of the rounds up to d are true, and the core of round d
--     AreFree g p rs      one round can be picked, and its clauses stay as true as they were
--     RoundsFail      where no assignment satisfies the formula, each core fails
--     guard n r, pick n r      such literals, where n variables are taken
--     rounds_of events      the rounds of a session
--     AnswersAreTrue      what the formula of a session says of its answers
use Rattle.std.specs.Prelude.{◌≡◌, ℕ, zero, suc, ◌+◌, ◌*◌, ◌≤◌, ◌<◌, nat_lt, Bool, true, false}
use Rattle.std.specs.Prelude.{◌&&◌, List, [], ◌∷◌, ◌++◌, map}
use Rattle.std.specs.List.{list_all}
use Rattle.sat_rules.specs.Clauses.{all_true, lit_true, negate, var_of}
use Rattle.refutation_rules.specs.Sessions.{AllMet, AllTrue, Event, asked, given, lits_true}
use Rattle.refutation_rules.specs.Sessions.{satisfiable, unknown, unsatisfiable}

-- clauses that are given, and the core of the next query that failed
pub record Round : Type 0 where
  pub clauses : List (List ℕ)
  pub core : List ℕ

-- the clauses hold where the guard does
abbrev pub guarded : ℕ → List (List ℕ) → List (List ℕ)
guarded g cs = map (λ c. negate g ∷ c) cs

-- the literals of the core hold where it is picked
abbrev pub picked : ℕ → List ℕ → List (List ℕ)
picked p k = map (λ l. negate p ∷ l ∷ []) k

-- a picked round has its guard, and a guard has the one before it
abbrev pub encoded_from : (ℕ → ℕ) → (ℕ → ℕ) → ℕ → List Round → List (List ℕ)
encoded_from g p r [] = []
encoded_from g p r (x ∷ xs) =
    (negate (p r) ∷ g r ∷ []) ∷ (negate (g (suc r)) ∷ g r ∷ [])
    ∷ (guarded (g r) x.clauses ++ (picked (p r) x.core ++ encoded_from g p (suc r) xs))

-- some round is picked
abbrev pub picks : (ℕ → ℕ) → ℕ → List Round → List ℕ
picks p r [] = []
picks p r (x ∷ xs) = p r ∷ picks p (suc r) xs

-- the formula
abbrev pub encoded : (ℕ → ℕ) → (ℕ → ℕ) → List Round → List (List ℕ)
encoded g p rs = picks p 0 rs ∷ encoded_from g p 0 rs

-- the clauses of the rounds up to d are true, and the core of round d
abbrev pub meets : (ℕ → Bool) → ℕ → List Round → Bool
meets a d [] = false
meets a zero (x ∷ xs) = all_true a x.clauses && lits_true a x.core
meets a (suc d) (x ∷ xs) = all_true a x.clauses && meets a d xs

-- round d is picked: the guards up to it are true and no others, and its own pick alone
pub record Picks (g p : ℕ → ℕ) (d : ℕ) (b : ℕ → Bool) : Type 0 where
  pub on : (r : ℕ) → r ≤ d → lit_true b (g r) ≡ true
  pub off : (r : ℕ) → d < r → lit_true b (g r) ≡ false
  pub one : lit_true b (p d) ≡ true
  pub others : (r : ℕ) → (r ≡ d → ⊥) → lit_true b (p r) ≡ false

-- whoever meets a round can be made to pick it too
abbrev pub AreFree : (ℕ → ℕ) → (ℕ → ℕ) → List Round → Type 0
AreFree g p rs = (a : ℕ → Bool) (d : ℕ) → meets a d rs ≡ true
    → (b : ℕ → Bool) × (meets b d rs ≡ true) × Picks g p d b

-- where no assignment satisfies the formula, none satisfies the clauses of some rounds and the core
-- of the last of them
abbrev pub RoundsFail : Type 0
RoundsFail = (g p : ℕ → ℕ) (rs : List Round) → AreFree g p rs
    → ((a : ℕ → Bool) → all_true a (encoded g p rs) ≡ false)
    → (d : ℕ) (a : ℕ → Bool) → meets a d rs ≡ true → ⊥

-- of the variables after the first n, every other one is a guard
abbrev pub guard : ℕ → ℕ → ℕ
guard n r = 2 * (n + 2 * r)

-- and those between them pick
abbrev pub pick : ℕ → ℕ → ℕ
pick n r = 2 * (n + (2 * r + 1))

-- all literals are of the first n variables
abbrev pub is_below : ℕ → List ℕ → Bool
is_below n c = list_all (λ l. nat_lt (var_of l) n) c

-- and so are those of all rounds
abbrev pub all_below : ℕ → List Round → Bool
all_below n [] = true
all_below n (x ∷ xs) = (list_all (is_below n) x.clauses && is_below n x.core) && all_below n xs

-- so where no assignment satisfies the formula with these literals, each core fails
abbrev pub SessionsFail : Type 0
SessionsFail = (n : ℕ) (rs : List Round) → all_below n rs ≡ true
    → ((a : ℕ → Bool) → all_true a (encoded (guard n) (pick n) rs) ≡ false)
    → (d : ℕ) (a : ℕ → Bool) → meets a d rs ≡ true → ⊥

-- a clause joins the first round;  where there is none, it comes after the last core
abbrev pub joins : List ℕ → List Round → List Round
joins c [] = []
joins c (x ∷ xs) = record x { clauses = c ∷ x.clauses } ∷ xs

-- a round for each query that failed
abbrev pub rounds_of : List Event → List Round
rounds_of [] = []
rounds_of (given c ∷ es) = joins c (rounds_of es)
rounds_of (asked assumed (satisfiable values) ∷ es) = rounds_of es
rounds_of (asked assumed (unsatisfiable core) ∷ es) =
    record { clauses = []; core = core } ∷ rounds_of es
rounds_of (asked assumed unknown ∷ es) = rounds_of es

-- where no assignment satisfies the formula of a session, and each answer by itself is met, all
-- answers are true
abbrev pub AnswersAreTrue : Type 0
AnswersAreTrue = (n : ℕ) (es : List Event) → all_below n (rounds_of es) ≡ true
    → ((a : ℕ → Bool) → all_true a (encoded (guard n) (pick n) (rounds_of es)) ≡ false)
    → AllMet [] es → AllTrue [] es
