-- What a writer of hints has written of a run of steps that was delivered to it, and that a checker which holds the formula accepts it.
--     takes old e new      the writer takes a step, as a processor
--     WroteRun n es new      what a new writer for n clauses is after the steps
--     WriterShowsRun      a new writer that takes the steps in turn leads to that
--     RunsFrom cs es      the steps are a run that begins with the formula's clauses
--     AcceptsRun cs es text      a checker that holds the formula accepts the text, and answers whether a step derives the empty clause
--     WriterIsAccepted      so it is with what a writer wrote of such a run
use Rattle.std.specs.Prelude.{◌≡◌, ℕ, ◌^◌, ◌<◌, Bool, true, false, List, [], ◌++◌, length, take, None, All}
use Rattle.std.specs.List.{list_any}
use Rattle.sat_rules.specs.HintLines.{Listed, is_empty, listing}
use Rattle.checker_rules.specs.CallEmissions.{empty_machine}
use Rattle.checker_rules.specs.CheckedSteps.{NamedStep, hint_steps}
use Rattle.checker_rules.specs.FormulaEmissions.{input_steps}
use Rattle.checker_rules.specs.HintRun.{HintStep, IsRun, fails_core, lowers, puts_derived, puts_input, removes}
use Rattle.checker_rules.specs.Ran.{Ran}
use Rattle.checker_rules.specs.WrittenLines as rules
use Rattle.checker_rules.specs.WrittenLines.{new_writer, no_input}
use Rattle.hint_rules.specs.Accepted.{Accepts}
use Rattle.sat_hints.specs.Writing.{Wrote, after_all, first_fault, writer_of, written}
use Rattle.sat_hints.specs.WrittenText.{lines_text}
use Rattle.sat_hints.specs.WrittenTexts.{HasFittingCodes}
use Rattle.sat_hints.specs.declared.writer.LratWriter.{LratWriter}

-- the writer takes a step, as a processor
abbrev pub takes : LratWriter → NamedStep → LratWriter → Type 0
takes old e new = Wrote old e.step new

-- no step has a fault for a new writer, and this one has written their lines and knows what was delivered to it
pub record WroteRun (n : ℕ) (es : List NamedStep) (new : LratWriter) : Type 0 where
  pub accepted : first_fault (new_writer n) (hint_steps es) ≡ None
  pub text : written new ≡ lines_text (rules.lines_of (new_writer n) (hint_steps es))
  pub after : writer_of new ≡ after_all (new_writer n) (hint_steps es)

-- a new writer that takes the steps in turn leads to that
abbrev pub WriterShowsRun : Type 0
WriterShowsRun = (old new : LratWriter) (n : ℕ) (es : List NamedStep) →
    writer_of old ≡ new_writer n → written old ≡ [] → Ran takes old es new → WroteRun n es new

-- the steps begin with a formula's clauses, or a beginning of them, put no other input clause, and are a run of the hint machine; the clauses that they derive can be written
pub record RunsFrom (cs : List (List ℕ)) (es : List NamedStep) : Type 0 where
  pub clauses : ℕ
  pub rest : List HintStep
  pub inputs_first : hint_steps es ≡ input_steps 0 (take clauses cs) ++ rest
  pub no_more : no_input rest ≡ true
  pub is_run : IsRun empty_machine (hint_steps es)
  pub codes : All HasFittingCodes rest

-- whether a step derives the empty clause
abbrev pub derives_empty : HintStep → Bool
derives_empty (puts_input i c) = false
derives_empty (puts_derived i c ids) = is_empty c
derives_empty (removes i) = false
derives_empty (lowers i keep c ids) = false
derives_empty (fails_core c ids) = false

-- the text is accepted after the formula's clauses, and the empty clause was added exactly where a step derives it
pub record AcceptsRun (cs : List (List ℕ)) (es : List NamedStep) (bytes : List ℕ) : Type 0 where
  pub held : Listed
  pub accepts : Accepts (listing cs) bytes held
  pub empty : held.added_empty ≡ list_any derives_empty (hint_steps es)

-- what a new writer, given the number of clauses of the formula, wrote of such a run
abbrev pub WriterIsAccepted : Type 0
WriterIsAccepted = (old new : LratWriter) (cs : List (List ℕ)) (es : List NamedStep) →
    writer_of old ≡ new_writer (length cs) → written old ≡ [] → Ran takes old es new →
    length cs < 2 ^ 64 → RunsFrom cs es → AcceptsRun cs es (written new)
