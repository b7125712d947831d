-- Why an input clause is rejected, and what becomes of one that is not.
--     input_cause s c      the first cause that applies to a canonical list
--     early_cause s c      the first of those that are found before the stored clauses are read
--     IsFaultOf f c s t      why the clause was not stored after that, and the state t then
--     taken s c      the state with the clause taken
use Rattle.std.specs.Prelude.{ℕ, ◌≡◌, ◌≤◌, List, if◌then◌else◌, not, nat_lt, nat_le, false, Option, None, Some}
use Rattle.checker_rules.specs.AddClause.{store_input, take_input}
use Rattle.checker_rules.specs.KnownVars.{know_clause, some_not_sampling}
use Rattle.checker_rules.specs.Outcome.{Cause, not_sampling, ids_exhausted, count_exhausted}
use Rattle.checker_rules.specs.State.{State}
use Rattle.checker_rules.specs.Store.{count_limit, count_of, id_limit}
use Rattle.checker_parts.specs.Causes.{cause_of}
use Rattle.checker_parts.specs.declared.error.CheckCause.{CheckCause}
use Rattle.clause_store.specs.declared.clauses.store.StoreFault.{StoreFault}
use Rattle.clause_store.specs.declared.clauses.store.StoreFault.TheVariants as storing

-- the first cause that applies to a canonical list
abbrev pub input_cause : State → List ℕ → Option Cause
input_cause s c =
    if some_not_sampling s c then Some not_sampling
    else if not (nat_lt s.next id_limit) then Some ids_exhausted
    else if nat_le count_limit (count_of false c s.clauses) then Some count_exhausted
    else None

-- the first of the causes that are found before the stored clauses are read
abbrev pub early_cause : State → List ℕ → Option Cause
early_cause s c =
    if some_not_sampling s c then Some not_sampling
    else if not (nat_lt s.next id_limit) then Some ids_exhausted
    else None

-- the cause of the code is that cause
abbrev pub IsEarlyCause : Option CheckCause → State → List ℕ → Type 0
IsEarlyCause None s c = early_cause s c ≡ None
IsEarlyCause (Some msg) s c = early_cause s c ≡ Some (cause_of msg)

-- why a clause for which an id is left was not stored: its copies are at their limit, and the state is as it was; nothing is said where memory was refused
abbrev pub IsFaultOf : StoreFault → List ℕ → State → State → Type 0
IsFaultOf storing.OutOfMemory c s t = Unit {0}
IsFaultOf storing.IdsExhausted c s t = ⊥
IsFaultOf storing.CountExhausted c s t = (count_limit ≤ count_of false c s.clauses) × (t ≡ s)

-- the state with the clause taken
abbrev pub taken : State → List ℕ → State
taken s c = take_input (store_input c (know_clause c s))
