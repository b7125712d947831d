-- The lines that a writer of hints writes of steps, and that a checker of hints accepts those of a run.
--     Writer, new_writer n      what a writer knows: the announced number of clauses, and what was delivered to it
--     number_of w i      the number by which an id is written
--     line_of w e      the line of a step, where it has one
--     WriterFault, writer_fault w e      when the writer answers a fault
--     lines_of w es      the lines of a list of steps
--     LinesFollow      those of a run are accepted after the formula's clauses
use Rattle.std.specs.Prelude.{◌≡◌, ℕ, suc, ◌+◌, ◌^◌, Bool, true, false, if◌then◌else◌, ◌||◌, ◌==◌, nat_le, List, [], ◌∷◌, ◌++◌, length, map, take, Option, Some, None}
use Rattle.std.specs.List.{list_any}
use Rattle.sat_rules.specs.HintLines.{Follows, HintLine, Listed, adds_clause, deletes_clauses, listing}
use Rattle.checker_rules.specs.CallEmissions.{empty_machine}
use Rattle.checker_rules.specs.FormulaEmissions.{input_steps}
use Rattle.checker_rules.specs.HintRun.{HintStep, IsRun, fails_core, lowers, puts_derived, puts_input, removes}

-- the announced number, the ids of the input clauses delivered and how many they were, whether a derived clause was delivered, the number of the last addition
pub record Writer : Type 0 where
  pub announced : ℕ
  pub inputs : ℕ → Bool
  pub told : ℕ
  pub derived : Bool
  pub last : ℕ

-- a writer to which nothing was delivered
abbrev pub new_writer : ℕ → Writer
new_writer n = record { announced = n; inputs = λ i. false; told = 0; derived = false; last = n }

-- an input clause is written by its place, from 1 on; any other id comes after all announced clauses
abbrev pub number_of : Writer → ℕ → ℕ
number_of w i = if w.inputs i then suc i else w.announced + suc i

-- an addition of a derived clause, a deletion of one that is removed
abbrev pub line_of : Writer → HintStep → List HintLine
line_of w (puts_input i c) = []
line_of w (puts_derived i c ids) = adds_clause (w.announced + suc i) c (map (number_of w) ids) ∷ []
line_of w (removes i) = deletes_clauses w.last (number_of w i ∷ []) ∷ []
line_of w (lowers i keep c ids) =
    if keep then []
    else deletes_clauses w.last (number_of w i ∷ []) ∷ []
line_of w (fails_core c ids) = []

-- what the writer knows after a step
abbrev pub after_written : Writer → HintStep → Writer
after_written w (puts_input i c) =
    record w { inputs = λ k. k == i || w.inputs k; told = suc w.told }
after_written w (puts_derived i c ids) = record w { derived = true; last = w.announced + suc i }
after_written w (removes i) = w
after_written w (lowers i keep c ids) = w
after_written w (fails_core c ids) = w

-- input clauses come first, and are as many as were announced at most; numbers stay below 2^64
pub data WriterFault : Type 0 where
  input_after_derived too_many_inputs number_out_of_range : WriterFault

-- whether a number does not fit
abbrev pub is_large : ℕ → Bool
is_large n = nat_le (2 ^ 64) n

-- a fault, where it applies
abbrev pub fault_if : Bool → WriterFault → Option WriterFault
fault_if b x = if b then Some x else None

-- the fault of a step
abbrev pub writer_fault : Writer → HintStep → Option WriterFault
writer_fault w (puts_input i c) =
    if w.derived then Some input_after_derived
    else if nat_le w.announced w.told then Some too_many_inputs
    else fault_if (is_large (suc i)) number_out_of_range
writer_fault w (puts_derived i c ids) =
    fault_if (is_large (w.announced + suc i) || list_any (λ j. is_large (number_of w j)) ids)
    number_out_of_range
writer_fault w (removes i) = fault_if (is_large (number_of w i)) number_out_of_range
writer_fault w (lowers i keep c ids) =
    if keep then None
    else fault_if (is_large (number_of w i)) number_out_of_range
writer_fault w (fails_core c ids) = None

-- the lines of the steps, one after the other
abbrev pub lines_of : Writer → List HintStep → List HintLine
lines_of w [] = []
lines_of w (e ∷ es) = line_of w e ++ lines_of (after_written w e) es

-- whether no step is an input clause
abbrev pub no_input : List HintStep → Bool
no_input [] = true
no_input (puts_input i c ∷ es) = false
no_input (puts_derived i c ids ∷ es) = no_input es
no_input (removes i ∷ es) = no_input es
no_input (lowers i keep c ids ∷ es) = no_input es
no_input (fails_core c ids ∷ es) = no_input es

-- a run that begins with a formula's clauses, or a beginning of them: a checker of hints that holds the formula accepts its lines
abbrev pub LinesFollow : Type 0
LinesFollow = (cs : List (List ℕ)) (k : ℕ) (es : List HintStep) → no_input es ≡ true →
    IsRun empty_machine (input_steps 0 (take k cs) ++ es) →
    (h : Listed) × Follows (listing cs)
    (lines_of (new_writer (length cs)) (input_steps 0 (take k cs) ++ es)) h
