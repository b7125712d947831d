-- What is written of lines is read again, and the text of a run is accepted.
use Rattle.std.proofs.Common.{◌≡◌, ℕ, suc, ◌+◌, ◌^◌, ◌<◌, Bool, true, false, cond, List, [], ◌∷◌, ◌++◌, length, map, Option, Some, None, refl, sym, arith}
use Rattle.std.specs.Prelude.{All, decimal, is_some, take}
use Rattle.std.specs.List.{list_any}
use Rattle.std.proofs.lemmas.Bool.{leb-false, or_parts}
use Rattle.std.proofs.lemmas.List.Elements.{All-append, All-cons, All-head, All-nil, All-tail}
use Rattle.std.proofs.lemmas.Option.{none-some}
use Rattle.sat_rules.specs.HintLines.{HintLine, adds_clause, deletes_clauses}
use Rattle.checker_rules.specs.FormulaEmissions.{input_steps}
use Rattle.checker_rules.specs.HintRun.{HintStep, fails_core, lowers, puts_derived, puts_input, removes}
use Rattle.checker_rules.specs.WrittenLines as rules
use Rattle.checker_rules.specs.WrittenLines.{Writer, WriterFault, after_written, fault_if, is_large, line_of, new_writer, number_of, writer_fault}
use Rattle.checker_rules.proofs.WrittenLineFacts.{lines_follow}
use Rattle.sat_formula.specs.Lines.{lines_of}
use Rattle.hint_rules.specs.Accepted.{said_all}
use Rattle.sat_hints.specs.Writing.{first_fault}
use Rattle.written_numbers.specs.Words.{IsId}
use Rattle.written_numbers.proofs.SpacedWords.{lines_of-line_text}
use Rattle.sat_hints.specs.WrittenText.{HasFittingNumbers, first_number, further_words, lines_text}
use Rattle.sat_hints.specs.WrittenTexts.{HasFittingCodes, TextIsAccepted, TextIsRead}
use Rattle.sat_hints.proofs.WrittenLines.{are_words, written_is_read}

-- ---- reading

pub text_is_read : TextIsRead
text_is_read [] fit = refl
text_is_read (x ∷ xs) fit =
    let this = All-head HasFittingNumbers x xs fit in
    rw (lines_of-line_text (decimal (first_number x) ∷ further_words x) (lines_text xs) (are_words x this), written_is_read x this, text_is_read xs (All-tail HasFittingNumbers x xs fit)) refl

-- ---- a writer without a fault

no_fault_if : (b : Bool) (f : WriterFault) → fault_if b f ≡ None → b ≡ false
no_fault_if true f e = absurd (none-some f (sym e))
no_fault_if false f e = refl

pub no_first : (o p : Option WriterFault) → cond (is_some o) o p ≡ None → (o ≡ None) × (p ≡ None)
no_first None p e = (refl, e)
no_first (Some f) p e = absurd (none-some f (sym e))

positive : (b : Bool) (m i : ℕ) → 0 < cond b (suc i) (m + suc i)
positive true m i = omega arith
positive false m i = omega arith

number_fits : (w : Writer) (i : ℕ) → is_large (number_of w i) ≡ false → IsId (number_of w i)
number_fits w i e = (positive (w.inputs i) w.announced i, leb-false (2 ^ 64) (number_of w i) e)

numbers_fit : (w : Writer) (ids : List ℕ) → list_any (λ j. is_large (number_of w j)) ids ≡ false → All IsId (map (number_of w) ids)
numbers_fit w [] e = All-nil IsId
numbers_fit w (i ∷ ids) e =
    let parts = or_parts _ _ e in
    All-cons IsId (number_of w i) (map (number_of w) ids) (number_fits w i parts.0) (numbers_fit w ids parts.1)

addition_fits : (w : Writer) (i : ℕ) (c ids : List ℕ) → writer_fault w (puts_derived i c ids) ≡ None → HasFittingCodes (puts_derived i c ids)
    → HasFittingNumbers (adds_clause (w.announced + suc i) c (map (number_of w) ids))
addition_fits w i c ids e codes =
    let parts = or_parts _ _ (no_fault_if _ _ e) in
    ((omega arith, leb-false (2 ^ 64) (w.announced + suc i) parts.0), codes, numbers_fit w ids parts.1)

deletion_fits : (w : Writer) (i : ℕ) → w.last < 2 ^ 64 → writer_fault w (removes i) ≡ None → HasFittingNumbers (deletes_clauses w.last (number_of w i ∷ []))
deletion_fits w i last e = (last, All-cons IsId (number_of w i) [] (number_fits w i (no_fault_if _ _ e)) (All-nil IsId))

-- one line
one_fits : (x : HintLine) → HasFittingNumbers x → All HasFittingNumbers (x ∷ [])
one_fits x fit = All-cons HasFittingNumbers x [] fit (All-nil HasFittingNumbers)

-- a step without a fault has a line that fits, and leaves a number in front that fits
step_fits : (w : Writer) (e : HintStep) → w.last < 2 ^ 64 → writer_fault w e ≡ None → HasFittingCodes e →
    All HasFittingNumbers (line_of w e) × ((after_written w e).last < 2 ^ 64)
step_fits w (puts_input i c) last f codes = (All-nil HasFittingNumbers, last)
step_fits w (puts_derived i c ids) last f codes = let fits = addition_fits w i c ids f codes in (one_fits _ fits, fits.0.1)
step_fits w (removes i) last f codes = (one_fits _ (deletion_fits w i last f), last)
step_fits w (lowers i true c ids) last f codes = (All-nil HasFittingNumbers, last)
step_fits w (lowers i false c ids) last f codes = (one_fits _ (deletion_fits w i last f), last)
step_fits w (fails_core c ids) last f codes = (All-nil HasFittingNumbers, last)

lines_fit : (w : Writer) (es : List HintStep) → w.last < 2 ^ 64 → first_fault w es ≡ None → All HasFittingCodes es → All HasFittingNumbers (rules.lines_of w es)
lines_fit w [] last f codes = All-nil HasFittingNumbers
lines_fit w (e ∷ es) last f codes =
    let none = no_first (writer_fault w e) (first_fault (after_written w e) es) f in
    let this = step_fits w e last none.0 (All-head HasFittingCodes e es codes) in
    let rest = lines_fit (after_written w e) es this.1 none.1 (All-tail HasFittingCodes e es codes) in
    All-append HasFittingNumbers (line_of w e) (rules.lines_of (after_written w e) es) this.0 rest

-- ---- accepting

input_codes : (id : ℕ) (cs : List (List ℕ)) → All HasFittingCodes (input_steps id cs)
input_codes id [] = All-nil HasFittingCodes
input_codes id (c ∷ cs) = All-cons HasFittingCodes _ (input_steps (id + 1) cs) tt (input_codes (id + 1) cs)

-- what is written of the clauses, or a beginning of them, and of the steps after them
pub run_is_read : (cs : List (List ℕ)) (k : ℕ) (es : List HintStep) → length cs < 2 ^ 64 → All HasFittingCodes es → first_fault (new_writer (length cs)) (input_steps 0 (take k cs) ++ es) ≡ None →
    said_all (lines_of (lines_text (rules.lines_of (new_writer (length cs)) (input_steps 0 (take k cs) ++ es)))) ≡ Some (rules.lines_of (new_writer (length cs)) (input_steps 0 (take k cs) ++ es))
run_is_read cs k es few codes none =
    let steps : List HintStep = input_steps 0 (take k cs) ++ es in
    text_is_read (rules.lines_of (new_writer (length cs)) steps)
    (lines_fit (new_writer (length cs)) steps few none (All-append HasFittingCodes (input_steps 0 (take k cs)) es (input_codes 0 (take k cs)) codes))

pub text_is_accepted : TextIsAccepted
text_is_accepted cs k es inputs run few codes none =
    let follow = lines_follow cs k es inputs run in
    (follow.0, record { lines = rules.lines_of (new_writer (length cs)) (input_steps 0 (take k cs) ++ es); said = run_is_read cs k es few codes none; follow = follow.1 })
