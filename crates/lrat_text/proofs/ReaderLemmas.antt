-- What reading a line says, and reading on to one that says something.
use Rattle.std.proofs.Common.{◌≡◌, ℕ, ◌+◌, ◌<◌, ◌≤◌, Bool, true, false, List, [], ◌∷◌, length, Option, Some, None, Result, Ok, Err, refl, sym, ◌∙◌, arith}
use Rattle.std.specs.Prelude.{not}
use Rattle.std.proofs.lemmas.Bool.{false_from_ne_true, true≢false}
use Rattle.sat_formula.specs.Lines.{words_of}
use Rattle.sat_formula.specs.Outcome.{next_line}
use Rattle.sat_formula.specs.Readings.{Known}
use Rattle.sat_formula.specs.declared.source.Source.{Source}
use Rattle.sat_formula.proofs.Readings.{continues_on}
use Rattle.lrat_rules.specs.Lines.{Line}
use Rattle.lrat_text.specs.declared.fault.LineKind.{LineKind}
use Rattle.lrat_text.specs.declared.fault.LineKind.TheVariants.{Malformed, Unfinished}
use Rattle.sat_formula.specs.declared.read_fault.ReadFault.TheVariants as faults
use Rattle.lrat_text.specs.Faults.{LratTextFault}
use Rattle.sat_formula.specs.declared.stop.Stop.{Stop}
use Rattle.sat_formula.specs.declared.stop.Stop.TheVariants as stops
use Rattle.lrat_text.specs.declared.line.LratLine.{LratLine}
use Rattle.lrat_text.specs.declared.reader.LineReader.{LineReader}
use Rattle.lrat_text.specs.declared.row.Head.{Head}
use Rattle.lrat_text.specs.Bytes.{IsOpen}
use Rattle.lrat_text.specs.Grammar.{says}
use Rattle.lrat_text.specs.Holding.{HoldsLine}
use Rattle.lrat_text.specs.NextLine.{Gives, bytes_left, has_ended, line_number, room_left, work_left, rest_of, Reads, Answers, Counts, CountsBytes, CountsLine, JudgesLine, Explains}
use Rattle.lrat_text.specs.Reading.{ReadsAs, line_if, line_of}
use Rattle.lrat_text.specs.Taking.{Follows}
use Rattle.lrat_text.proofs.LineLemmas.{said_then, line_leads, last_ends, breaks_on}

-- ---- one line

-- the fault of a line that ends too early
abbrev pub short_for : Bool → LineKind
short_for true = Malformed
short_for false = Unfinished

held : {R : Type 0} (a b : Known) (before : ℕ) (source : Source R) (line : List ℕ) (whole : Bool) → HoldsLine a b source line (Ok whole) →
    Follows a b before (not whole) (said_then (next_line before) (says (short_for whole) (words_of line)))
held a b before source line true p = line_leads before line p.0 p.1
held a b before source line false p = last_ends before line p.0 p.1 p.2

pub holds_open : {R : Type 0} (a b : Known) (source : Source R) (line : List ℕ) (whole : Bool) → HoldsLine a b source line (Ok whole) → IsOpen line
holds_open a b source line true p = p.0
holds_open a b source line false p = p.0

module _ {R : Type 0} (remaining : R → Option (List ℕ)) (old new : LineReader R) (line : List ℕ) where
  pub line_judged : (whole : Bool) (r : Result (Option Head) (Stop LineKind)) → HoldsLine (bytes_left remaining old) (bytes_left remaining new) new.lines.source line (Ok whole)
      → line_number new ≡ next_line (line_number old) → has_ended new ≡ not whole → ReadsAs (line_if new.row) (says (short_for whole) (words_of line)) r → JudgesLine remaining old new r
  line_judged whole (Ok head) p number over said = rw (number, over) (rw said at (held _ _ (line_number old) new.lines.source line whole p))
  line_judged whole (Err stops.End) p number over said = absurd said
  line_judged whole (Err (stops.Wrong kind)) p number over said = rw number (not whole, rw said at (held _ _ (line_number old) new.lines.source line whole p))
  line_judged whole (Err stops.Read) p number over said = absurd said
  line_judged whole (Err stops.OutOfMemory) p number over said = tt

-- ---- what is counted

-- a line of which a byte was taken
pub counts_line : {R : Type 0} (old new : LineReader R) → CountsBytes old new → (r : Result (Option Head) (Stop LineKind)) → CountsLine old new r
counts_line old new c (Ok None) = λ open_still. c
counts_line old new c (Ok (Some head)) = c
counts_line old new c (Err stops.End) = c
counts_line old new c (Err (stops.Wrong kind)) = c
counts_line old new c (Err stops.Read) = tt
counts_line old new c (Err stops.OutOfMemory) = tt

-- a line that says something has a byte
pub held_counts : {R : Type 0} (old new : LineReader R) (line : List ℕ) (whole : Bool) (r : Result (Option Head) (Stop LineKind)) → line_number new ≡ next_line (line_number old)
    → has_ended new ≡ not whole → (whole ≡ true → room_left new < room_left old) → room_left new + length line ≤ room_left old
    → ReadsAs (line_if new.row) (says (short_for whole) (words_of line)) r → CountsLine old new r
held_counts old new line true r number over nearer taken said = counts_line old new (let less = nearer refl in omega arith) r
held_counts old new (b ∷ line) false r number over nearer taken said = counts_line old new (omega arith) r
held_counts old new [] false (Ok None) number over nearer taken said = λ open_still. absurd (true≢false (sym over ∙ open_still))
held_counts old new [] false (Err stops.End) number over nearer taken said = absurd said
held_counts old new [] false (Err stops.OutOfMemory) number over nearer taken said = tt
held_counts old new [] false r number over nearer taken said = absurd (grind arith)

pub counts_on : {R : Type 0} (old now new : LineReader R) → CountsBytes old now → CountsBytes now new → CountsBytes old new
counts_on old now new p q = omega arith

pub stop_counts : {R : Type 0} (old now new last : LineReader R) (stop : Stop LineKind) (fault : LratTextFault) → CountsBytes old now → CountsLine now new (Err stop)
    → Explains new.lines.source new.number stop fault → last ≡ record new { ended = true } → Counts {R = R} {X = Head} old last (Err fault)
stop_counts old now new last stops.End fault p q e is = rw (e, is) (counts_on old now new p q)
stop_counts old now new last (stops.Wrong kind) fault p q e is = rw (e, is) (counts_on old now new p q)
stop_counts old now new last stops.Read (faults.Read e) p q told is = tt
stop_counts old now new last stops.Read fault p q told is = absurd told
stop_counts old now new last stops.OutOfMemory fault p q e is = rw e tt

-- ---- line after line

module _ {R : Type 0} (remaining : R → Option (List ℕ)) (old now new : LineReader R) where
  -- what a loop keeps: lines that say nothing were read
  pub line_passed : Reads remaining old now false (rest_of now) → JudgesLine remaining now new (Ok None) → Reads remaining old new (has_ended new) (rest_of new)
  line_passed p q = continues_on (bytes_left remaining new) (has_ended new) (rest_of new) p q

  pub line_given : (head : Head) → Reads remaining old now false (rest_of now) → JudgesLine remaining now new (Ok (Some head)) →
      work_left new < work_left old → Answers remaining (line_of new.row) old new (Ok (Some head))
  line_given head p q less = (continues_on (bytes_left remaining new) (has_ended new) _ p q, less)

  -- nothing is read after a stop
  pub stop_told : (last : LineReader R) (stop : Stop LineKind) (fault : LratTextFault) → Reads remaining old now false (rest_of now) → JudgesLine remaining now new (Err stop)
      → Explains new.lines.source new.number stop fault → last ≡ record new { ended = true } → Answers remaining (line_of last.row) old last (Err fault)
  stop_told last stops.End fault p q e is = absurd q
  stop_told last (stops.Wrong kind) fault p q e is =
      rw (e, is) (refl, (q.0, continues_on (bytes_left remaining new) q.0 _ p q.1), refl)
  stop_told last stops.Read (faults.Read e) p q told is = rw is (breaks_on p q.0, told, refl)
  stop_told last stops.Read fault p q told is = absurd told
  stop_told last stops.OutOfMemory fault p q e is = rw (e, is) refl

-- the end
pub text_ended : {R X : Type 0} (remaining : R → Option (List ℕ)) (seen : X → Line) (old now : LineReader R) → has_ended now ≡ true →
    Reads remaining old now (has_ended now) (rest_of now) → Answers remaining seen old now (Ok None)
text_ended remaining seen old now e p =
    let q = rw e at p in
    (record { taken = q.taken; consumed = q.consumed; at_end = q.at_end; same = q.same }, e)

-- only a reader that has not ended gives something
pub open_still : {R : Type 0} (remaining : R → Option (List ℕ)) (old new : LineReader R) (r : Result (Option LratLine) LratTextFault) →
    (r ≡ Ok None → ⊥) → Gives remaining old new r → has_ended old ≡ false
open_still remaining old new r some gives = false_from_ne_true (has_ended old) (λ e. some (gives.stays e).0)
