-- The lines of a text, one after the other.
use Rattle.std.proofs.Common.{◌≡◌, ℕ, ◌+◌, Bool, List, [], ◌∷◌, ◌++◌, get_or, take, Option, Some, Result, refl, sym, ap, ◌∙◌, append_assoc, arith}
use Rattle.std.specs.Io.KnownBytes.{Consumes, IsAtEnd}
use Rattle.std.proofs.KnownBytes.{Consumes-trans}
use Rattle.std.proofs.lemmas.Bool.{eqb-true}
use Rattle.std.proofs.lemmas.List.{get_or-take, get_or_default, length-take-le, take_more}
use Rattle.std.proofs.lemmas.List.Splits.{slice_split_at, slice_split_none}
use Rattle.memchr.specs.Find.{IsFirstByte, is_byte}
use Rattle.sat_formula.specs.Bytes.{is_lf}
use Rattle.sat_formula.specs.Lines.{lines_of, words_of}
use Rattle.sat_formula.specs.Outcome.{next_line}
use Rattle.sat_formula.specs.Readings.{Known, Leads, EndsAll}
use Rattle.sat_formula.proofs.Lines.{slice_split-front}
use Rattle.sat_formula.proofs.Readings.{continues_on, continues_under}
use Rattle.lrat_rules.specs.Lines.{Line}
use Rattle.lrat_text.specs.declared.fault.LineKind.{LineKind}
use Rattle.lrat_text.specs.declared.fault.LineKind.TheVariants.{Malformed, Unfinished}
use Rattle.lrat_text.specs.Grammar.{says}
use Rattle.lrat_text.specs.Bytes.{IsLine, IsOpen}
use Rattle.lrat_text.specs.Taking.{Follows, Breaks}
use Rattle.lrat_text.specs.Texts.{Outcome, line_then, lines_from, outcome_after, with_line, with_lines}

-- what a line says, and then the rest of its text
abbrev pub said_then : ℕ → Result (Option Line) LineKind → List ℕ → Outcome
said_then number said more = line_then number said (outcome_after number more)

-- a line with its LF
lines_of-lf : (line more : List ℕ) → IsOpen line → lines_of ((line ++ 10 ∷ []) ++ more) ≡ line ∷ lines_of more
lines_of-lf line more is_open = ap lines_of (append_assoc line (10 ∷ []) more) ∙ slice_split_at is_lf line 10 more is_open refl

-- it is no last line, since the text continues after it, if only by an empty line
short_inside : (before : ℕ) (line more : List ℕ) → lines_from before (line ∷ lines_of more) ≡ said_then (next_line before) (says Malformed (words_of line)) more
short_inside before line more =
    let e = slice_split-front is_lf more in
    ap (λ (ls : List (List ℕ)). lines_from before (line ∷ ls)) e
    ∙ ap (λ (ls : List (List ℕ)). line_then (next_line before) (says Malformed (words_of line)) (lines_from (next_line before) ls)) (sym e)

pub line_leads : {a b : Known} (before : ℕ) (line : List ℕ) → IsOpen line → Consumes a b (line ++ 10 ∷ []) →
    Leads a b (outcome_after before) (said_then (next_line before) (says Malformed (words_of line)))
line_leads before line is_open consumed = record {
  taken = line ++ 10 ∷ [];
  consumed = consumed;
  same = λ more. ap (lines_from before) (lines_of-lf line more is_open) ∙ short_inside before line more;
}

pub last_ends : {a b : Known} (before : ℕ) (line : List ℕ) → IsOpen line → Consumes a b line → IsAtEnd b →
    EndsAll a b (outcome_after before) (said_then (next_line before) (says Unfinished (words_of line)) [])
last_ends before line is_open consumed at_end = record {
  taken = line;
  consumed = consumed;
  at_end = at_end;
  same = ap (lines_from before) (slice_split_none is_lf line is_open);
}

-- the bytes up to the first LF, and it
pub first_line : (bytes : List ℕ) (n : ℕ) → IsFirstByte (is_byte 10) bytes (Some n) → IsLine (take (n + 1) bytes)
first_line bytes n p = record {
  line = take n bytes;
  is = take_more bytes n 0 p.0.high ∙ ap (λ (b : ℕ). take n bytes ++ b ∷ []) (eqb-true (get_or bytes n 0) 10 p.1);
  is_open = λ k d lt. grind (arith, get_or-take, get_or_default, length-take-le, p.0.high, p.0.before k, lt);
}

-- one more line
pub with_lines-more : (ls : List (ℕ × Line)) (n : ℕ) (l : Line) (o : Outcome) → with_lines ls (with_line n l o) ≡ with_lines (ls ++ (n, l) ∷ []) o
with_lines-more ls n l o = ap (λ (xs : List (ℕ × Line)). (xs, o.1)) (sym (append_assoc ls ((n, l) ∷ []) o.0))

-- ---- line after line

-- a line after those that were read, which come before the outcome so
pub follows_under : {a b : Known} (c : Known) (before number : ℕ) (over : Bool) (h : Outcome → Outcome) (g : List ℕ → Outcome) →
    Leads a b (outcome_after before) (λ more. h (outcome_after number more)) → Follows b c number over g → Follows a c before over (λ more. h (g more))
follows_under {a} {b} c before number over h g p q = continues_on c over (λ more. h (g more)) p (continues_under b c over h (outcome_after number) g q)

pub breaks_on : {a b c : Known} {before number last : ℕ} → Leads a b (outcome_after before) (outcome_after number) → Breaks b c number last → Breaks a c before last
breaks_on {a} {b} {c} {before} p q = record {
  passed = p.taken ++ q.passed;
  begun = q.begun;
  consumed = rw (append_assoc p.taken q.passed q.begun) (Consumes-trans a b c p.taken (q.passed ++ q.begun) p.consumed q.consumed);
  same = λ more. ap (outcome_after before) (append_assoc p.taken q.passed more) ∙ p.same (q.passed ++ more) ∙ q.same more;
  is_open = q.is_open;
}
