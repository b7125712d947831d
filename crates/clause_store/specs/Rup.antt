-- What the propagation check finds, in the words of the rules.
use Rattle.std.specs.Prelude.{◌≡◌, ℕ, Bool, if◌then◌else◌, List, ◌∷◌, map, Option, None, Some, All}
use Rattle.std.specs.List.{list_any}
use Rattle.sat_rules.specs.Clauses.{unfalsified}
use Rattle.checker_rules.specs.Passes.{CheckAnswer, by_count, failed, no_clause, passed, walk, walk_buckets}
use Rattle.checker_rules.specs.State.{StoredUnit, all_lits, lit_by_unit, some_true_unit, start_set}
use Rattle.clause_store.specs.declared.clauses.Clause.{Clause}
use Rattle.clause_store.specs.declared.clauses.units.UnitClause.{UnitClause}
use Rattle.clause_store.specs.declared.rup.Answer.{Answer}
use Rattle.clause_store.specs.declared.rup.Answer.TheVariants.{Passed, NoClauseForHash, Failed}
use Rattle.clause_store.specs.declared.rup.status.ClauseStatus.{ClauseStatus}
use Rattle.clause_store.specs.declared.rup.status.ClauseStatus.TheVariants as statuses
use Rattle.clause_store.specs.Buckets.{Buckets, clauses_at}
use Rattle.clause_store.specs.Lits.{lits_of}
use Rattle.clause_store.specs.StateOf.{stored_units}
use Rattle.clause_store.specs.Units.{AreKnown}
use Rattle.clause_store.specs.View.{stored_of}

-- the literals that the values make true
abbrev pub true_lits : List (Option UnitClause) → ℕ → Bool
true_lits us = lit_by_unit (stored_units us)

-- what the true literals make of a clause, as one step of the walk takes it
abbrev pub status_of : (ℕ → Bool) → List ℕ → ClauseStatus
status_of s c =
    if list_any s c then statuses.Idle
    else by_count (unfalsified s c) statuses.Falsified (λ l. statuses.Unit l) statuses.Idle

-- a walk over clauses from these values meets a falsified one, or leaves those
abbrev pub Walks : List (Option UnitClause) → List (List ℕ) → List (Option UnitClause) → Bool →
    Type 0
Walks us cs vs falsified = walk (true_lits us) cs ≡
    (if falsified then None else Some (true_lits vs))

-- the answer in the words of the rules
abbrev pub check_answer : Answer → CheckAnswer
check_answer Passed = passed
check_answer NoClauseForHash = no_clause
check_answer Failed = failed

-- the answer that ends a walk, or else what the rest of it answers
abbrev pub answer_or : Option Answer → CheckAnswer → CheckAnswer
answer_or None rest = rest
answer_or (Some a) rest = check_answer a

-- a walk over buckets of which this is the first ends in it, or continues from those values
abbrev pub WalksFirst : List (Option UnitClause) → List (List ℕ) → List (Option UnitClause) →
    Option Answer → Type 0
WalksFirst us b vs end = (rest : List (List (List ℕ))) →
    walk_buckets (true_lits us) (b ∷ rest) ≡ answer_or end (walk_buckets (true_lits vs) rest)

-- the lists of literals of clauses
abbrev pub lits_in : List ℕ → List Clause → List (List ℕ)
lits_in buffer cs = all_lits (map (stored_of buffer) cs)

-- the lists of literals of the clauses with a hash
abbrev pub lits_at : List ℕ → Buckets → ℕ → List (List ℕ)
lits_at buffer m h = lits_in buffer (clauses_at m h)

-- the variables of every clause are known
abbrev pub AreAllKnown : List (Option UnitClause) → List ℕ → Buckets → Type 0
AreAllKnown us buffer m = (k : ℕ) → All (λ c. AreKnown us (lits_of c.lits buffer)) (clauses_at m k)

-- the buckets of the hashes
abbrev pub named_buckets : List ℕ → Buckets → List ℕ → List (List (List ℕ))
named_buckets buffer m hs = map (lits_at buffer m) hs

-- the answer of the check of a clause over these buckets
abbrev pub clause_answer : List (Option StoredUnit) → List ℕ → List (List (List ℕ)) → CheckAnswer
clause_answer us c bs = if some_true_unit us c then passed else walk_buckets (start_set us c) bs
