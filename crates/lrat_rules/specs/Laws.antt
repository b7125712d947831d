-- What accepted lines say of assignments.
--     IsModel a st      every stored clause is true
--     repaired a line      the assignment after a line: flipped at the pivot's variable where the new clause is false
--     LinesKeepModels, RunsKeepModels, RupRunsFollow, RatResolves, RunsJoin      the laws
use Rattle.std.specs.Prelude.{◌≡◌, ℕ, Bool, true, ◌&&◌, ◌||◌, if◌then◌else◌, List, [], ◌∷◌, ◌++◌, Some}
use Rattle.sat_rules.specs.Clauses.{all_true, clause_true, flip, has, negate, var_of}
use Rattle.sat_rules.specs.Named.{Item}
use Rattle.lrat_rules.specs.Groups.{without}
use Rattle.lrat_rules.specs.Lines.{Hint, Line, adds, by_rat, by_rup, deletes, refutes, run, step, then_test}
use Rattle.lrat_rules.specs.Stores.{clauses_of, find, formula_store}

-- every stored clause is true
abbrev pub IsModel : (ℕ → Bool) → List Item → Type 0
IsModel a st = all_true a (clauses_of st) ≡ true

-- some assignment makes every stored clause true
abbrev pub IsSatisfiable : List Item → Type 0
IsSatisfiable st = (a : ℕ → Bool) × IsModel a st

-- flipped at the variable of the first literal
abbrev pub flip_pivot : (ℕ → Bool) → List ℕ → ℕ → Bool
flip_pivot a [] = a
flip_pivot a (p ∷ ps) = flip a (var_of p)

-- the assignment, flipped at the pivot's variable where an added clause is false
abbrev pub repaired : (ℕ → Bool) → Line → ℕ → Bool
repaired a (adds i c hs) = if clause_true a c then a else flip_pivot a c
repaired a (deletes is) = a

-- one line
pub record LinesKeepModels : Type 0 where
  -- a clause added by propagation is true under the same assignment
  pub rup : (st : List Item) (c : List ℕ) (hs : List Hint) → by_rup st c hs ≡ true →
      (a : ℕ → Bool) → IsModel a st → clause_true a c ≡ true
  -- every accepted line keeps the repaired assignment a model
  pub repairs : (st su : List Item) (l : Line) → step st l ≡ Some su → (a : ℕ → Bool) →
      IsModel a st → IsModel (repaired a l) su
  -- so it keeps satisfiability
  pub keeps : (st su : List Item) (l : Line) → step st l ≡ Some su → IsSatisfiable st →
      IsSatisfiable su

-- lines that are accepted in turn keep satisfiability
abbrev pub RunsKeepModels : Type 0
RunsKeepModels = (st su : List Item) (ls : List Line) → run st ls ≡ Some su → IsSatisfiable st →
    IsSatisfiable su

-- a clause that is added follows by propagation
abbrev pub is_rup : List Item → Line → Bool
is_rup st (adds i c hs) = by_rup st c hs
is_rup st (deletes is) = true

-- each line is accepted, and no clause is added by its pivot
abbrev pub all_rup : List Item → List Line → Bool
all_rup st [] = true
all_rup st (l ∷ ls) = is_rup st l && then_test (step st l) (λ su. all_rup su ls)

-- where no clause was added by its pivot, whoever satisfies the formula satisfies all that is stored
abbrev pub RupRunsFollow : Type 0
RupRunsFollow = (formula : List (List ℕ)) (su : List Item) (ls : List Line) →
    run (formula_store formula) ls ≡ Some su → all_rup (formula_store formula) ls ≡ true →
    (a : ℕ → Bool) → all_true a formula ≡ true → IsModel a su

-- whoever satisfies the store satisfies each resolvent on the pivot of a clause that was accepted by it
abbrev pub RatResolves : Type 0
RatResolves = (st : List Item) (p : ℕ) (ps : List ℕ) (hs : List Hint) →
    by_rat st (p ∷ ps) hs ≡ true →
    (i : ℕ) (d : List ℕ) → find st i ≡ Some d → has (negate p) d ≡ true → (a : ℕ → Bool) →
    IsModel a st → (clause_true a (p ∷ ps) || clause_true a (without (negate p) d)) ≡ true

-- a list of lines in two parts
pub record RunsJoin : Type 0 where
  pub run_on : (st su : List Item) (ls ms : List Line) → run st ls ≡ Some su →
      run st (ls ++ ms) ≡ run su ms
  pub refutes_on : (st su : List Item) (ls ms : List Line) → run st ls ≡ Some su →
      refutes st (ls ++ ms) ≡ (refutes st ls || refutes su ms)
