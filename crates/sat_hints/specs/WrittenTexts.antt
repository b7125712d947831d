-- The text that a writer of hints writes: it is read again, and a checker that holds the formula accepts it.
--     TextIsRead      what is written of lines is read as those lines
--     HasFittingCodes e      the literals of a clause that a step adds can be written
--     TextIsAccepted      the text of a run, written without a fault, is accepted after the formula's clauses
use Rattle.std.specs.Prelude.{◌≡◌, ℕ, ◌^◌, ◌<◌, true, List, ◌++◌, length, take, Some, None, All}
use Rattle.sat_rules.specs.HintLines.{HintLine, Listed, listing}
use Rattle.checker_rules.specs.CallEmissions.{empty_machine}
use Rattle.checker_rules.specs.FormulaEmissions.{input_steps}
use Rattle.checker_rules.specs.HintRun.{HintStep, IsRun, fails_core, lowers, puts_derived, puts_input, removes}
use Rattle.checker_rules.specs.WrittenLines as rules
use Rattle.checker_rules.specs.WrittenLines.{new_writer, no_input}
use Rattle.sat_formula.specs.Lines.{lines_of}
use Rattle.hint_rules.specs.Accepted.{Accepts, said_all}
use Rattle.sat_hints.specs.Writing.{first_fault}
use Rattle.written_numbers.specs.Words.{IsCode}
use Rattle.sat_hints.specs.WrittenText.{HasFittingNumbers, lines_text}

-- what is written of lines is read as those lines
abbrev pub TextIsRead : Type 0
TextIsRead = (xs : List HintLine) → All HasFittingNumbers xs →
    said_all (lines_of (lines_text xs)) ≡ Some xs

-- the literals of a clause that a step adds are of 2^28 variables; no other step has literals in its line
abbrev pub HasFittingCodes : HintStep → Type 0
HasFittingCodes (puts_input i c) = Unit {0}
HasFittingCodes (puts_derived i c ids) = All IsCode c
HasFittingCodes (removes i) = Unit {0}
HasFittingCodes (lowers i keep c ids) = Unit {0}
HasFittingCodes (fails_core c ids) = Unit {0}

-- a run that begins with a formula's clauses, or a beginning of them: what a writer writes of it without a fault, a checker that holds the formula accepts
abbrev pub TextIsAccepted : Type 0
TextIsAccepted = (cs : List (List ℕ)) (k : ℕ) (es : List HintStep) → no_input es ≡ true →
    IsRun empty_machine (input_steps 0 (take k cs) ++ es) →
    length cs < 2 ^ 64 → All HasFittingCodes es →
    first_fault (new_writer (length cs)) (input_steps 0 (take k cs) ++ es) ≡ None →
    (h : Listed) × Accepts (listing cs)
    (lines_text (rules.lines_of (new_writer (length cs)) (input_steps 0 (take k cs) ++ es))) h
