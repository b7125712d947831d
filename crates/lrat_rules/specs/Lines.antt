-- The rules of LRAT proofs, line by line. To be read first: what a line is, when a clause may be added, and what a run that adds the empty clause says.
--     Hint, Line      a hint;  a line, which adds a clause or deletes some
--     leading hs, groups hs      the hints before the groups;  the groups
--     by_rup st c hs, by_rat st c hs      the clause follows by propagation;  it is redundant by its first literal
--     accepts st line, after st line      whether a line is accepted;  the store after an accepted one
--     step st line, run st lines      the store after a line, and after all lines in turn;  None: rejected
--     refutes st lines      the lines up to one that adds the empty clause are accepted
--     is_refuted formula lines      so are they after the formula's clauses, or one of these is empty
--     RunsRefute      then no assignment satisfies the formula
use Rattle.std.specs.Prelude.{◌≡◌, ℕ, Bool, true, false, ◌&&◌, ◌||◌, if◌then◌else◌, List, [], ◌∷◌, Option, Some, None, is_none}
use Rattle.sat_rules.specs.Clauses.{all_true}
use Rattle.sat_rules.specs.Named.{Item, negated_set}
use Rattle.lrat_rules.specs.Groups.{Group, all_met}
use Rattle.lrat_rules.specs.Propagation.{Ending, at_end, is_conflict, propagate}
use Rattle.lrat_rules.specs.Stores.{find, formula_store, without_ids}

-- ---- what a line is

-- a positive number: propagate along this clause;  a negative one: the group of this clause begins, which holds the negation of the first literal
pub data Hint : Type 0 where
  along against : ℕ → Hint

-- `id literals 0 hints 0`;  `id d ids 0`, whose own id says nothing
pub data Line : Type 0 where
  adds : (id : ℕ) → (clause : List ℕ) → (hints : List Hint) → Line
  deletes : (ids : List ℕ) → Line

-- the hints before the first group
abbrev pub leading : List Hint → List ℕ
leading [] = []
leading (along i ∷ hs) = i ∷ leading hs
leading (against d ∷ hs) = []

-- the groups, each with the hints up to the next
abbrev pub groups : List Hint → List Group
groups [] = []
groups (along i ∷ hs) = groups hs
groups (against d ∷ hs) = record { id = d; hints = leading hs } ∷ groups hs

-- ---- when a clause may be added

-- where the leading hints lead, with all literals of the clause false
abbrev pub led : List Item → List ℕ → List Hint → Ending
led st c hs = propagate (find st) (negated_set c) (leading hs)

-- they lead to a conflict, so the clause follows
abbrev pub by_rup : List Item → List ℕ → List Hint → Bool
by_rup st c hs = is_conflict (led st c hs)

-- they end with a set of true literals, from which the groups meet every stored clause with the negation of the first literal
abbrev pub by_rat : List Item → List ℕ → List Hint → Bool
by_rat st c hs = at_end (led st c hs) (λ s. all_met st s c (groups hs))

-- ---- what lines do

-- a clause may be added under an id that is not stored, where it follows or is redundant;  ids may always be deleted
abbrev pub accepts : List Item → Line → Bool
accepts st (adds i c hs) = is_none (find st i) && (by_rup st c hs || by_rat st c hs)
accepts st (deletes is) = true

-- an added clause is stored;  deleted ids are gone, and one that is not stored is passed over
abbrev pub after : List Item → Line → List Item
after st (adds i c hs) = record { id = i; lits = c } ∷ st
after st (deletes is) = without_ids is st

-- the store after an accepted line
abbrev pub step : List Item → Line → Option (List Item)
step st l = if accepts st l then Some (after st l) else None

-- continue, where there is a store
abbrev pub then_run : Option (List Item) → (List Item → Option (List Item)) → Option (List Item)
then_run None go = None
then_run (Some st) go = go st

-- each line in turn
abbrev pub run : List Item → List Line → Option (List Item)
run st [] = Some st
run st (l ∷ ls) = then_run (step st l) (λ su. run su ls)

-- whether the line adds the empty clause
abbrev pub adds_empty : Line → Bool
adds_empty (adds i [] hs) = true
adds_empty (adds i (l ∷ ls) hs) = false
adds_empty (deletes is) = false

-- the test at the store, where there is one
abbrev pub then_test : Option (List Item) → (List Item → Bool) → Bool
then_test None test = false
then_test (Some st) test = test st

-- the lines up to one that adds the empty clause are accepted
abbrev pub refutes : List Item → List Line → Bool
refutes st [] = false
refutes st (l ∷ ls) = then_test (step st l) (λ su. adds_empty l || refutes su ls)

-- ---- what a run says

-- whether one of the clauses is empty
abbrev pub has_empty : List (List ℕ) → Bool
has_empty [] = false
has_empty ([] ∷ cs) = true
has_empty ((l ∷ ls) ∷ cs) = has_empty cs

-- one of the formula's clauses is empty, or the lines after them up to one that adds the empty clause are accepted
abbrev pub is_refuted : List (List ℕ) → List Line → Bool
is_refuted formula ls = has_empty formula || refutes (formula_store formula) ls

-- then no assignment satisfies the formula
abbrev pub RunsRefute : Type 0
RunsRefute = (formula : List (List ℕ)) (ls : List Line) →
    is_refuted formula ls ≡ true → (a : ℕ → Bool) → all_true a formula ≡ true → ⊥
