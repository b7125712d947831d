-- Lines of hints, what a checker that holds only ids and clauses answers to them, and what its yes means.
--     HintLine      an addition with its hints, or a deletion
--     HintCause      why an addition is rejected
--     hints_cause f s ids      the first hint in turn that is rejected, where the codes of s are taken as true
--     Listed      what the checker holds: the clauses under their ids, and whether the empty clause was added
--     line_cause h x, after_line h x      the rejection of a line, and what is held after an accepted one
--     Follows h xs k      the lines are accepted in turn from h, and lead to k
--     listing cs      a formula's clauses under 1, 2 and so on
use Rattle.std.specs.Prelude.{◌≡◌, ℕ, suc, Bool, true, false, if◌then◌else◌, ◌||◌, nat_lt, List, [], ◌∷◌, Option, Some, None}
use Rattle.sat_rules.specs.Clauses.{add_lit, all_true, is_falsified, is_unit_on}
use Rattle.sat_rules.specs.Named.{IsAdmitted, Machine, drop_id, negated_set, put_id}

-- an addition: its id, its literals, its hints; a deletion: a number that says nothing, and the ids that go
pub data HintLine : Type 0 where
  adds_clause : (id : ℕ) → (clause : List ℕ) → (hints : List ℕ) → HintLine
  deletes_clauses : (number : ℕ) → (ids : List ℕ) → HintLine

-- an id that was used or passed by; a hint that names nothing; one before the last that is not unit; a last one that is not falsified
pub data HintCause : Type 0 where
  id_not_greater unknown_id not_unit no_conflict : HintCause

-- the first literal of the second list on which the clause is unit
abbrev pub unit_among : (ℕ → Bool) → List ℕ → List ℕ → Option ℕ
unit_among s c [] = None
unit_among s c (l ∷ ls) = if is_unit_on s c l then Some l else unit_among s c ls

-- the last hint: its clause is falsified
abbrev pub last_cause : (ℕ → Bool) → Option (List ℕ) → Option HintCause
last_cause s None = Some unknown_id
last_cause s (Some c) = if is_falsified s c then None else Some no_conflict

-- a clause that is unit, or not, and the hints after it
abbrev pub go_on : Option ℕ → (ℕ → Option HintCause) → Option HintCause
go_on None rest = Some not_unit
go_on (Some l) rest = rest l

-- a hint before the last: its clause is unit, and its literal is true for those after it
abbrev pub next_cause : (ℕ → Bool) → Option (List ℕ) → ((ℕ → Bool) → Option HintCause) →
    Option HintCause
next_cause s None rest = Some unknown_id
next_cause s (Some c) rest = go_on (unit_among s c c) (λ l. rest (add_lit l s))

-- the hints in turn
abbrev pub hints_cause : (ℕ → Option (List ℕ)) → (ℕ → Bool) → List ℕ → Option HintCause
hints_cause f s [] = Some no_conflict
hints_cause f s (i ∷ []) = last_cause s (f i)
hints_cause f s (i ∷ j ∷ ids) = next_cause s (f i) (λ t. hints_cause f t (j ∷ ids))

-- no hint is rejected exactly where the list is admitted for the clause
abbrev pub HintsDecide : Type 0
HintsDecide = (f : ℕ → Option (List ℕ)) (c ids : List ℕ) → record {
  sound : hints_cause f (negated_set c) ids ≡ None → IsAdmitted f c ids;
  whole : IsAdmitted f c ids → hints_cause f (negated_set c) ids ≡ None;
}

-- what a hint checker holds
pub record Listed : Type 0 where
  pub machine : Machine
  pub added_empty : Bool

-- whether the clause is empty
abbrev pub is_empty : List ℕ → Bool
is_empty [] = true
is_empty (l ∷ ls) = false

-- an id must be greater than all before it, and then the hints are tried
abbrev pub line_cause : Listed → HintLine → Option HintCause
line_cause h (adds_clause id c hints) =
    if nat_lt id h.machine.above then Some id_not_greater
    else hints_cause h.machine.named (negated_set c) hints
line_cause h (deletes_clauses number ids) = None

-- ids that go, whether they are there or not
abbrev pub drop_ids : List ℕ → Machine → Machine
drop_ids [] m = m
drop_ids (i ∷ ids) m = drop_ids ids (drop_id i m)

-- what is held after a line
abbrev pub after_line : Listed → HintLine → Listed
after_line h (adds_clause id c hints) =
    record { machine = put_id id c h.machine; added_empty = h.added_empty || is_empty c }
after_line h (deletes_clauses number ids) = record h { machine = drop_ids ids h.machine }

-- the lines are accepted in turn, and lead from one to the other
abbrev pub Follows : Listed → List HintLine → Listed → Type 0
Follows h [] k = k ≡ h
Follows h (x ∷ xs) k = (line_cause h x ≡ None) × Follows (after_line h x) xs k

-- the clauses under the ids from i on
abbrev pub list_from : ℕ → List (List ℕ) → Machine → Machine
list_from i [] m = m
list_from i (c ∷ cs) m = list_from (suc i) cs (put_id i c m)

-- a formula's clauses under 1, 2 and so on, and no line
abbrev pub listing : List (List ℕ) → Listed
listing cs = record {
  machine = list_from 1 cs (record { named = λ i. None; above = 1 });
  added_empty = false;
}

-- where the empty clause was added, no assignment satisfies the formula
abbrev pub HintsRefute : Type 0
HintsRefute = (cs : List (List ℕ)) (xs : List HintLine) (k : Listed) → Follows (listing cs) xs k →
    k.added_empty ≡ true → (a : ℕ → Bool) → all_true a cs ≡ true → ⊥
