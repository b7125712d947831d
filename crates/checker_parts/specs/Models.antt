-- What an accepted model and an accepted failed core prove of the members.
--     Proves t ts s      the parts of the headline on models and cores, of a step t accepted in the state s, where the steps ts came before
--     RunProves before s ts      the same of each step that a run from s accepts
--     Refutes t ts, RunRefutes before ts      the part on cores alone, where the members make all that is stored true
use Rattle.std.specs.Prelude.{◌≡◌, ℕ, Bool, true, List, [], ◌∷◌, ◌++◌, Option}
use Rattle.std.specs.List.{list_all}
use Rattle.sat_rules.specs.Clauses.{lit_true}
use Rattle.checker_rules.specs.Calls.{attempt}
use Rattle.checker_rules.specs.Headline.{Extends, holds}
use Rattle.checker_rules.specs.State.{State, StoredUnit}
use Rattle.checker_rules.specs.Step.{Step, add_clause, assumptions, at_clause, change_hash_bits, change_sampling_mode, delete_clause}
use Rattle.checker_rules.specs.Step.{delete_var, end_proof, failed_assumptions, model, solver_var_name, unit_clauses, user_var_name}

-- the model with the units extends only to members, and to one
pub record ModelProves (m : List ℕ) (ts : List Step) (units : List (Option StoredUnit)) : Type 0
  where
    pub members : (a : ℕ → Bool) → Extends a m units → holds ts a ≡ true
    pub one : (a : ℕ → Bool) × Extends a m units

-- no member makes all literals of the core true
abbrev pub CoreFails : List ℕ → List Step → Type 0
CoreFails c ts = (a : ℕ → Bool) → holds ts a ≡ true → list_all (lit_true a) c ≡ true → ⊥

-- by the kind of step
abbrev pub Proves : Step → List Step → State → Type 0
Proves (model m) ts s = ModelProves m ts s.units
Proves (failed_assumptions c hs) ts s = CoreFails c ts
Proves (solver_var_name x v) ts s = Unit {0}
Proves (user_var_name x u) ts s = Unit {0}
Proves (delete_var x) ts s = Unit {0}
Proves (change_sampling_mode x b) ts s = Unit {0}
Proves (add_clause c) ts s = Unit {0}
Proves (at_clause r c hs) ts s = Unit {0}
Proves (delete_clause j c) ts s = Unit {0}
Proves (unit_clauses us) ts s = Unit {0}
Proves (change_hash_bits n) ts s = Unit {0}
Proves (assumptions c) ts s = Unit {0}
Proves end_proof ts s = Unit {0}

-- the state after steps that are attempted one after the other
abbrev pub attempted : State → List Step → State
attempted s [] = s
attempted s (t ∷ ts) = attempted (attempt s t).after ts

-- each of the steps proves so much in the state in which it is attempted
abbrev pub RunProves : List Step → State → List Step → Type 0
RunProves before s [] = Unit {0}
RunProves before s (t ∷ ts) = Proves t before s
    × RunProves (before ++ t ∷ []) (attempt s t).after ts

-- by the kind of step
abbrev pub Refutes : Step → List Step → Type 0
Refutes (failed_assumptions c hs) ts = CoreFails c ts
Refutes (model m) ts = Unit {0}
Refutes (solver_var_name x v) ts = Unit {0}
Refutes (user_var_name x u) ts = Unit {0}
Refutes (delete_var x) ts = Unit {0}
Refutes (change_sampling_mode x b) ts = Unit {0}
Refutes (add_clause c) ts = Unit {0}
Refutes (at_clause r c hs) ts = Unit {0}
Refutes (delete_clause j c) ts = Unit {0}
Refutes (unit_clauses us) ts = Unit {0}
Refutes (change_hash_bits n) ts = Unit {0}
Refutes (assumptions c) ts = Unit {0}
Refutes end_proof ts = Unit {0}

-- each of the steps does so
abbrev pub RunRefutes : List Step → List Step → Type 0
RunRefutes before [] = Unit {0}
RunRefutes before (t ∷ ts) = Refutes t before × RunRefutes (before ++ t ∷ []) ts
