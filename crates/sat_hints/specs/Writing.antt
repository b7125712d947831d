-- What a writer of hints holds, and what a step does to it.
--     writer_of w, written w      what the writer knows, and the text it has written
--     step_fault w e, after_step w e, step_lines w e      the fault of a step, the writer after it, its lines
--     hints_fault w ids      the fault of hints
--     Wrote old e new, WroteLine old e new      a step was written, and what a step asks
--     IsFault f o      a fault of the code is that of the rules, or out of memory
use Rattle.std.specs.Prelude.{◌≡◌, ℕ, nat_eq, if◌then◌else◌, List, [], ◌∷◌, ◌++◌, Option, Some, None, is_some}
use Rattle.std.specs.HashSet.{contains}
use Rattle.std.specs.List.{list_any}
use Rattle.sat_rules.specs.HintLines.{HintLine}
use Rattle.checker_rules.specs.CheckedSteps.{CheckedStep, hint_step}
use Rattle.checker_rules.specs.HintRun.{HintStep}
use Rattle.checker_rules.specs.WrittenLines as rules
use Rattle.checker_rules.specs.WrittenLines.{Writer, after_written, fault_if, is_large, line_of, lines_of, number_of, writer_fault}
use Rattle.sat_hints.specs.WrittenText.{lines_text}
use Rattle.sat_hints.specs.declared.fault.WriterFault.{WriterFault}
use Rattle.sat_hints.specs.declared.fault.WriterFault.TheVariants as faults
use Rattle.sat_hints.specs.declared.writer.LratWriter.{LratWriter}

-- what the writer knows
abbrev pub writer_of : LratWriter → Writer
writer_of w = record {
  announced = w.announced;
  inputs = contains nat_eq w.inputs;
  told = w.told;
  derived = w.derived;
  last = w.last;
}

-- the text written so far
abbrev pub written : LratWriter → List ℕ
written w = w.text.items

-- the number, where it fits
abbrev pub fitting : ℕ → Option ℕ
fitting n = if is_large n then None else Some n

-- the fault of hints
abbrev pub hints_fault : Writer → List ℕ → Option rules.WriterFault
hints_fault w ids = fault_if (list_any (λ j. is_large (number_of w j)) ids)
    rules.number_out_of_range

-- the first fault of what a step asks
abbrev pub first_fault : Writer → List HintStep → Option rules.WriterFault
first_fault w [] = None
first_fault w (e ∷ es) =
    if is_some (writer_fault w e) then writer_fault w e
    else first_fault (after_written w e) es

-- the fault of a step
abbrev pub step_fault : Writer → CheckedStep → Option rules.WriterFault
step_fault w e = first_fault w (hint_step e)

-- the writer after what a step asks
abbrev pub after_all : Writer → List HintStep → Writer
after_all w [] = w
after_all w (e ∷ es) = after_all (after_written w e) es

-- the writer after a step
abbrev pub after_step : Writer → CheckedStep → Writer
after_step w e = after_all w (hint_step e)

-- the lines of a step
abbrev pub step_lines : Writer → CheckedStep → List HintLine
step_lines w e = lines_of w (hint_step e)

-- the step has no fault, and its lines are at the end of the text
pub record Wrote (old : LratWriter) (e : CheckedStep) (new : LratWriter) : Type 0 where
  pub accepted : step_fault (writer_of old) e ≡ None
  pub after : writer_of new ≡ after_step (writer_of old) e
  pub text : written new ≡ written old ++ lines_text (step_lines (writer_of old) e)

-- what a step asks has no fault, and its line is at the end of the text, where it has one
pub record WroteLine (old : LratWriter) (e : HintStep) (new : LratWriter) : Type 0 where
  pub accepted : writer_fault (writer_of old) e ≡ None
  pub after : writer_of new ≡ after_written (writer_of old) e
  pub text : written new ≡ written old ++ lines_text (line_of (writer_of old) e)

-- nothing was written
pub record WroteNothing (old : LratWriter) (new : LratWriter) : Type 0 where
  pub same : writer_of new ≡ writer_of old
  pub text : written new ≡ written old

-- a fault of the code is that of the rules, or out of memory
abbrev pub IsFault : WriterFault → Option rules.WriterFault → Type 0
IsFault faults.InputAfterDerived o = o ≡ Some rules.input_after_derived
IsFault faults.TooManyInputs o = o ≡ Some rules.too_many_inputs
IsFault faults.NumberOutOfRange o = o ≡ Some rules.number_out_of_range
IsFault faults.OutOfMemory o = Unit {0}
