-- What a writer of hints has written of a run of steps is the text of the run.
--     WroteSteps old es new      what a writer has written of what some steps ask
use Rattle.std.proofs.Common.{◌≡◌, ℕ, ◌^◌, ◌<◌, true, false, List, [], ◌∷◌, ◌++◌, length, Some, None, refl, sym, ap, ◌∙◌, append_assoc, append-nil}
use Rattle.std.specs.Prelude.{take}
use Rattle.std.specs.List.{list_any}
use Rattle.std.proofs.Math.Bool.{or-false}
use Rattle.std.proofs.lemmas.List.Folds.{list_any-append}
use Rattle.sat_rules.specs.HintLines.{HintLine, Listed, listing}
use Rattle.sat_rules.proofs.HintLineFacts.{some-same}
use Rattle.checker_rules.specs.CheckedSteps.{NamedStep, hint_step, hint_steps}
use Rattle.checker_rules.specs.FormulaEmissions.{input_steps}
use Rattle.checker_rules.specs.HintRun.{HintStep, fails_core, lowers, puts_derived, puts_input, removes}
use Rattle.checker_rules.specs.Ran.{Ran}
use Rattle.checker_rules.specs.WrittenLines as rules
use Rattle.checker_rules.specs.WrittenLines.{Writer, after_written, line_of, new_writer, writer_fault}
use Rattle.sat_formula.specs.Lines.{lines_of}
use Rattle.hint_rules.specs.Accepted.{Accepts, adds_empty, said_all}
use Rattle.hint_rules.proofs.AcceptedFacts.{added_by_lines}
use Rattle.sat_hints.specs.Writing.{Wrote, after_all, first_fault, writer_of, written}
use Rattle.sat_hints.specs.WrittenRuns.{AcceptsRun, RunsFrom, WriterIsAccepted, WriterShowsRun, derives_empty, takes}
use Rattle.sat_hints.specs.WrittenText.{lines_text, text_of}
use Rattle.sat_hints.specs.declared.writer.LratWriter.{LratWriter}
use Rattle.sat_hints.proofs.WrittenTexts.{no_first, run_is_read, text_is_accepted}

-- ---- steps after steps

first_fault-append : (w : Writer) (xs ys : List HintStep) → first_fault w xs ≡ None → first_fault (after_all w xs) ys ≡ None → first_fault w (xs ++ ys) ≡ None
first_fault-append w [] ys f g = g
first_fault-append w (e ∷ xs) ys f g =
    let none = no_first (writer_fault w e) (first_fault (after_written w e) xs) f in
    rw none.0 (first_fault-append (after_written w e) xs ys none.1 g)

after_all-append : (w : Writer) (xs ys : List HintStep) → after_all w (xs ++ ys) ≡ after_all (after_all w xs) ys
after_all-append w [] ys = refl
after_all-append w (e ∷ xs) ys = after_all-append (after_written w e) xs ys

lines_of-append : (w : Writer) (xs ys : List HintStep) → rules.lines_of w (xs ++ ys) ≡ rules.lines_of w xs ++ rules.lines_of (after_all w xs) ys
lines_of-append w [] ys = refl
lines_of-append w (e ∷ xs) ys = rw (lines_of-append (after_written w e) xs ys, append_assoc) refl

lines_text-append : (xs ys : List HintLine) → lines_text (xs ++ ys) ≡ lines_text xs ++ lines_text ys
lines_text-append [] ys = refl
lines_text-append (x ∷ xs) ys = rw (lines_text-append xs ys, append_assoc (text_of x) (10 ∷ lines_text xs)) refl

-- ---- a run

record WroteSteps (old : LratWriter) (es : List HintStep) (new : LratWriter) : Type 0 where
  accepted : first_fault (writer_of old) es ≡ None
  after : writer_of new ≡ after_all (writer_of old) es
  text : written new ≡ written old ++ lines_text (rules.lines_of (writer_of old) es)

-- one step, and the steps after it
wrote_more : (old mid new : LratWriter) (e : NamedStep) (es : List HintStep) → Wrote old e.step mid → WroteSteps mid es new → WroteSteps old (hint_step e.step ++ es) new
wrote_more old mid new e es first rest = record {
  accepted = first_fault-append (writer_of old) (hint_step e.step) es first.accepted (rw first.after at rest.accepted);
  after = rw (after_all-append (writer_of old) (hint_step e.step) es, ← first.after) rest.after;
  text = rw (lines_of-append (writer_of old) (hint_step e.step) es, lines_text-append, ← append_assoc, ← first.text, ← first.after) rest.text;
}

wrote_steps : (old new : LratWriter) (es : List NamedStep) → Ran takes old es new → WroteSteps old (hint_steps es) new
wrote_steps old new [] run = record { accepted = refl; after = ap writer_of (sym run); text = ap written (sym run) ∙ sym (append-nil (written old)) }
wrote_steps old new (e ∷ es) run = wrote_more old run.0 new e (hint_steps es) run.1 (wrote_steps run.0 new es run.2)

pub writer_shows_run : WriterShowsRun
writer_shows_run old new n es fresh blank run =
    let wrote = wrote_steps old new es run in
    record { accepted = rw fresh at wrote.accepted; text = rw (fresh, blank) at wrote.text; after = rw fresh at wrote.after }

-- ---- the empty clause

-- a line adds the empty clause where its step puts it
line_adds : (w : Writer) (e : HintStep) → list_any adds_empty (line_of w e) ≡ derives_empty e
line_adds w (puts_input i c) = refl
line_adds w (puts_derived i c ids) = or-false _
line_adds w (removes i) = refl
line_adds w (lowers i true c ids) = refl
line_adds w (lowers i false c ids) = refl
line_adds w (fails_core c ids) = refl

lines_add : (w : Writer) (es : List HintStep) → list_any adds_empty (rules.lines_of w es) ≡ list_any derives_empty es
lines_add w [] = refl
lines_add w (e ∷ es) = rw (list_any-append adds_empty (line_of w e), line_adds w e, lines_add (after_written w e) es) refl

-- ---- accepting

-- the lines of a text that is read again
accepted_empty : (h k : Listed) (bytes : List ℕ) (xs : List HintLine) → said_all (lines_of bytes) ≡ Some xs → Accepts h bytes k → h.added_empty ≡ false → k.added_empty ≡ list_any adds_empty xs
accepted_empty h k bytes xs said a none = rw (added_by_lines h a.lines k a.follow, none, some-same a.lines xs (sym a.said ∙ said)) refl

-- the text of steps that begin with a formula's clauses
steps_accepted : (cs : List (List ℕ)) (es : List NamedStep) → length cs < 2 ^ 64 → RunsFrom cs es → first_fault (new_writer (length cs)) (hint_steps es) ≡ None →
    AcceptsRun cs es (lines_text (rules.lines_of (new_writer (length cs)) (hint_steps es)))
steps_accepted cs es few r none =
    let w : Writer = new_writer (length cs) in
    let steps : List HintStep = input_steps 0 (take r.clauses cs) ++ r.rest in
    let faultless = rw r.inputs_first at none in
    let found = text_is_accepted cs r.clauses r.rest r.no_more (rw r.inputs_first at r.is_run) few r.codes faultless in
    let said = run_is_read cs r.clauses r.rest few r.codes faultless in
    record {
      held = found.0;
      accepts = rw r.inputs_first found.1;
      empty = rw (accepted_empty (listing cs) found.0 (lines_text (rules.lines_of w steps)) (rules.lines_of w steps) said found.1 refl, lines_add w steps, r.inputs_first) refl;
    }

pub writer_is_accepted : WriterIsAccepted
writer_is_accepted old new cs es fresh blank run few r =
    let wrote = writer_shows_run old new (length cs) es fresh blank run in
    rw wrote.text (steps_accepted cs es few r wrote.accepted)
