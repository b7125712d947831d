-- A reader of clauses: what it has left, and what a call answers.
use Rattle.std.specs.Prelude.{ℕ, ◌+◌, ◌-◌, ◌^◌, min, Bool, true, false, List, [], Option, Result, Ok, Err}
use Rattle.sat_formula.specs.declared.fault.DimacsFault.{DimacsFault}
use Rattle.sat_formula.specs.declared.counts.Counts.{Counts}
use Rattle.sat_formula.specs.declared.dimacs.DimacsReader.{DimacsReader}
use Rattle.sat_formula.specs.Source.{unread}
use Rattle.sat_formula.specs.Text.{State, next_at}
use Rattle.sat_formula.specs.Reading.{ReadsNext, state_of, room_in}

-- no clause comes any more
abbrev pub has_ended : {R : Type 0} → DimacsReader R → Bool
has_ended r = r.ended

-- the bytes that it has not taken, where they are known
abbrev pub unread_of : {R : Type 0} → (R → Option (List ℕ)) → DimacsReader R → Option (List ℕ)
unread_of remaining r = unread remaining r.text.source

-- how many bytes it takes from here on at most
abbrev pub bytes_left : {R : Type 0} → DimacsReader R → ℕ
bytes_left r = room_in r.text

-- its position in the text, before a clause
abbrev pub standing : {R : Type 0} → DimacsReader R → State
standing r = state_of r.text []

-- the variables of the clauses that it gave
abbrev pub vars_given : {R : Type 0} → DimacsReader R → ℕ
vars_given r = r.var_count

-- how many clauses it gave
abbrev pub clauses_given : {R : Type 0} → DimacsReader R → ℕ
clauses_given r = r.clause_count

-- the line on which the last of them ends; 0 where there is none
abbrev pub line_given : {R : Type 0} → DimacsReader R → ℕ
line_given r = r.text.past.clause_line

-- the counts of the header, once it was read
abbrev pub header_given : {R : Type 0} → DimacsReader R → Option Counts
header_given r = r.text.past.header

-- the variables and the clauses that it gave
abbrev pub counts_given : {R : Type 0} → DimacsReader R → Counts
counts_given r = record { variables = r.var_count; clauses = r.clause_count }

-- the next clause, the end or the fault of the text that was not taken
abbrev pub IsNext : {R : Type 0} → (R → Option (List ℕ)) → DimacsReader R → DimacsReader R →
    List ℕ → Result Bool DimacsFault → Type 0
IsNext remaining old new clause r =
    ReadsNext (unread_of remaining old) (unread_of remaining new) (next_at (standing old)) new.text
    clause new.ended r

-- one clause more where one was given; their number stays at its end
abbrev pub counted : ℕ → Result Bool DimacsFault → ℕ
counted n (Ok true) = min (n + 1) (2 ^ 64 - 1)
counted n (Ok false) = n
counted n (Err e) = n
