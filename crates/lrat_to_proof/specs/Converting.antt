-- Lines of an LRAT proof as steps of a proof. To be read first.
--     Converted      the steps written so far, and what is held then
--     begun width formula      before the first line
--     gather hash h found hints      the hashes of hints
--     derivation c hashes, deletion e      the steps of an added clause and of a deleted one
--     next width c line, run width c lines      one line more, and all lines in turn;  or why a line is rejected
--     whole c      all steps of the proof
use Rattle.std.specs.Prelude.{ℕ, true, ◌&&◌, ◌==◌, if◌then◌else◌, List, [], ◌∷◌, ◌++◌, Option, Some, None, is_some, Result, Ok, Err}
use Rattle.sat_rules.specs.Clauses.{is_tautology}
use Rattle.checker_rules.specs.State.{clause_hash}
use Rattle.checker_rules.specs.Step.{Step, at_clause, by_redundant, change_hash_bits, delete_clause, end_proof}
use Rattle.lrat_rules.specs.Lines.{Hint, Line, adds, against, along, deletes}
use Rattle.lrat_to_proof.specs.declared.fault.LineCause.{LineCause}
use Rattle.lrat_to_proof.specs.declared.fault.LineCause.TheVariants.{IdTaken, RatGroup, UnknownId}
use Rattle.lrat_to_proof.specs.Holding.{Entry, Holding, drop_entry, formula_holding, from_line, hold, is_named}

-- the steps written so far, and what is held after them
pub record Converted : Type 0 where
  pub steps : List Step
  pub held : Holding

-- a width other than 64 is set first
abbrev pub header : ℕ → List Step
header width = if width == 64 then [] else change_hash_bits width ∷ []

-- before the first line: the formula is not part of the proof
abbrev pub begun : ℕ → List (List ℕ) → Converted
begun width formula = record { steps = header width; held = formula_holding formula }

-- ---- clauses that are added

-- no variable has a solver name
abbrev pub no_name : ℕ → Option ℕ
no_name v = None

-- a hint adds the hash of its clause, unless a checker stores none under it: a unit counts without being named
abbrev pub hashes_of : (List ℕ → ℕ) → List ℕ → List ℕ
hashes_of hash c = if is_named c then hash c ∷ [] else []

-- continue with the clause of an id, where there is one
abbrev pub on_entry : Option Entry → (List ℕ → Result (List ℕ) LineCause) →
    Result (List ℕ) LineCause
on_entry None go = Err UnknownId
on_entry (Some e) go = go e.lits

-- the hashes of these hints in their order, after those that were found before
abbrev pub gather : (List ℕ → ℕ) → Holding → List ℕ → List Hint → Result (List ℕ) LineCause
gather hash h found [] = Ok found
gather hash h found (against d ∷ hs) = Err RatGroup
gather hash h found (along i ∷ hs) =
    on_entry (h.entries i) (λ c. gather hash h (found ++ hashes_of hash c) hs)

-- an added clause, a canonical list, as a redundant one; a tautology says nothing, and a checker would reject it
abbrev pub derivation : List ℕ → List ℕ → List Step
derivation c hashes = if is_tautology c then [] else at_clause true c hashes ∷ []

-- the clause is added by these hashes, where there are some
abbrev pub added : Converted → ℕ → Entry → Result (List ℕ) LineCause → Result Converted LineCause
added c i e (Err cause) = Err cause
added c i e (Ok hashes) = Ok (record {
  steps = c.steps ++ derivation e.lits hashes;
  held = hold i e c.held;
})

-- a line that adds a clause under a new id
abbrev pub add_line : ℕ → Converted → ℕ → List ℕ → List Hint → Result Converted LineCause
add_line width c i lits hints =
    if is_some (c.held.entries i) then Err IdTaken
    else added c i (from_line lits) (gather (clause_hash no_name width) c.held [] hints)

-- ---- clauses that are deleted

-- one copy of a clause that a line added is removed; those of the formula stay, and so do units
abbrev pub deletion : Option Entry → List Step
deletion None = []
deletion (Some e) =
    if e.derived && is_named e.lits then delete_clause by_redundant e.lits ∷ []
    else []

-- the clause of an id is removed; an id that names none is passed over
abbrev pub delete_one : Converted → ℕ → Converted
delete_one c i = record {
  steps = c.steps ++ deletion (c.held.entries i);
  held = drop_entry i c.held;
}

-- the clauses of the ids, in turn
abbrev pub delete_all : Converted → List ℕ → Converted
delete_all c [] = c
delete_all c (i ∷ is) = delete_all (delete_one c i) is

-- ---- lines

-- after one line more, or why it is rejected
abbrev pub next : ℕ → Converted → Line → Result Converted LineCause
next width c (adds i lits hints) = add_line width c i lits hints
next width c (deletes is) = Ok (delete_all c is)

-- continue, where the line was not rejected
abbrev pub then_run : Result Converted LineCause → (Converted → Result Converted LineCause) →
    Result Converted LineCause
then_run (Err cause) go = Err cause
then_run (Ok c) go = go c

-- a line is passed over where the formula is refuted before it
abbrev pub next_open : ℕ → Converted → Line → Result Converted LineCause
next_open width c line = if c.held.refuted then Ok c else next width c line

-- each line in turn
abbrev pub run : ℕ → Converted → List Line → Result Converted LineCause
run width c [] = Ok c
run width c (line ∷ lines) = then_run (next_open width c line) (λ d. run width d lines)

-- the whole proof
abbrev pub whole : Converted → List Step
whole c = c.steps ++ end_proof ∷ []
