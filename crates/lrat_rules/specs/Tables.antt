-- The rules over a table of clauses by id and a count for each literal, as a checker keeps them: no clause is searched for.
--     Table      the clause of each id, and how often each literal occurs in all clauses
--     put i c t, drop_all is t      the table with one more clause;  without the clauses of the ids
--     cause_by_table t line, table_after t line      the cause for which a line is rejected;  the table after an accepted one
--     IsTableOf t st, TablesDecide      the table of a store;  they decide alike
use Rattle.std.specs.Prelude.{◌≡◌, ℕ, suc, ◌+◌, ◌-◌, Bool, true, false, ◌||◌, ◌==◌, if◌then◌else◌, List, [], ◌∷◌, Option, Some, None, is_some}
use Rattle.sat_rules.specs.Clauses.{negate}
use Rattle.sat_rules.specs.Named.{Item, negated_set}
use Rattle.lrat_rules.specs.Causes.{Cause, group_fails, group_missing, id_taken, no_conflict}
use Rattle.lrat_rules.specs.Counts.{count_in, count_of, uses}
use Rattle.lrat_rules.specs.Groups.{Group, rest_met, without}
use Rattle.lrat_rules.specs.Lines.{Line, adds, after, deletes, groups, leading}
use Rattle.lrat_rules.specs.Maps.{ids_once}
use Rattle.lrat_rules.specs.Propagation.{propagate}
use Rattle.lrat_rules.specs.Refusals.{cause_at, cause_of_line}
use Rattle.lrat_rules.specs.Stores.{find, formula_store}

-- the clause of each id, and how often each literal occurs in all of them
pub record Table : Type 0 where
  pub named : ℕ → Option (List ℕ)
  pub counts : ℕ → ℕ

-- no clause
abbrev pub empty_table : Table
empty_table = record { named = λ i. None; counts = λ n. 0 }

-- one more clause
abbrev pub put : ℕ → List ℕ → Table → Table
put i c t = record {
  named = λ k. if k == i then Some c else t.named k;
  counts = λ n. count_of n c + t.counts n;
}

-- without the clause of an id, where it is there
abbrev pub drop_one : ℕ → Table → Table
drop_one i t = record {
  named = λ k. if k == i then None else t.named k;
  counts = λ n. t.counts n - count_in n (t.named i);
}

-- without those of the ids, in turn
abbrev pub drop_all : List ℕ → Table → Table
drop_all [] t = t
drop_all (i ∷ is) t = drop_all is (drop_one i t)

-- clauses under rising ids, the first under n
abbrev pub put_from : ℕ → List (List ℕ) → Table → Table
put_from n [] t = t
put_from n (c ∷ cs) t = put_from (suc n) cs (put n c t)

-- a formula's clauses under 1, 2, ..
abbrev pub formula_table : List (List ℕ) → Table
formula_table cs = put_from 1 cs empty_table

-- a clause that a group names is passed over where it lacks n; else the group must meet it, and it counts as often as it holds n
abbrev pub met_by_clause : Option (List ℕ) → ℕ → (List ℕ → Bool) → Option ℕ → (ℕ → Option ℕ) →
    Option ℕ
met_by_clause None n is_met pass go = pass
met_by_clause (Some d) n is_met pass go = if count_of n d == 0 then pass
    else (if is_met d then go (count_of n d) else None)

-- no id was seen;  one more was
abbrev pub no_id : ℕ → Bool
no_id k = false

abbrev pub add_id : ℕ → (ℕ → Bool) → ℕ → Bool
add_id i seen k = k == i || seen k

-- the groups in turn, each id once: how often n occurs in the candidates that pass; None: one fails
abbrev pub met_by_groups : (ℕ → Option (List ℕ)) → (ℕ → Bool) → ℕ → (ℕ → Bool) → ℕ → List Group →
    Option ℕ
met_by_groups f s n seen met [] = Some met
met_by_groups f s n seen met (g ∷ gs) =
    if seen g.id then met_by_groups f s n seen met gs
    else met_by_clause (f g.id) n (λ d. rest_met f s (without n d) (Some g.hints))
    (met_by_groups f s n seen met gs) (λ k. met_by_groups f s n (add_id g.id seen) (met + k) gs)

-- what is missing, where there are groups and where there is none
abbrev pub missing : List Group → Cause
missing [] = no_conflict
missing (g ∷ gs) = group_missing

-- n must be met as often as it is stored
abbrev pub met_cause : ℕ → List Group → Option ℕ → Option Cause
met_cause count gs None = Some group_fails
met_cause count gs (Some met) = if met == count then None else Some (missing gs)

-- the cause among the groups; the empty clause has no pivot
abbrev pub groups_cause_by : Table → (ℕ → Bool) → List ℕ → List Group → Option Cause
groups_cause_by t s [] gs = Some no_conflict
groups_cause_by t s (p ∷ ps) gs =
    met_cause (t.counts (negate p)) gs (met_by_groups t.named s (negate p) no_id 0 gs)

-- first the id, then the leading hints, then the groups
abbrev pub cause_by_table : Table → Line → Option Cause
cause_by_table t (adds i c hs) = if is_some (t.named i) then Some id_taken
    else cause_at (propagate t.named (negated_set c) (leading hs))
    (λ s. groups_cause_by t s c (groups hs))
cause_by_table t (deletes is) = None

-- the table after an accepted line
abbrev pub table_after : Table → Line → Table
table_after t (adds i c hs) = put i c t
table_after t (deletes is) = drop_all is t

-- the clauses of the store by their ids, each id once, and how often each literal occurs in it
pub record IsTableOf (t : Table) (st : List Item) : Type 0 where
  pub once : ids_once st ≡ true
  pub named : (i : ℕ) → t.named i ≡ find st i
  pub counts : (n : ℕ) → t.counts n ≡ uses n st

-- a table of a store rejects what the store rejects, for the same cause, and is after a line the table of the store after it
pub record TablesDecide : Type 0 where
  pub formula : (cs : List (List ℕ)) → IsTableOf (formula_table cs) (formula_store cs)
  pub cause : (t : Table) (st : List Item) → IsTableOf t st → (l : Line) →
      cause_by_table t l ≡ cause_of_line st l
  pub after : (t : Table) (st : List Item) → IsTableOf t st → (l : Line) →
      cause_of_line st l ≡ None → IsTableOf (table_after t l) (after st l)
