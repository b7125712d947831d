use Rattle.std.proofs.Common.{Err, refl, rules, sym, ◌∙◌}
use Rattle.sat_formula.specs.Reading.{ReadsWord}
use Rattle.sat_formula.proofs.Readings.{leads_nil, leads_on}
use Rattle.sat_formula.proofs.Exits.{exits}
use Rattle.sat_formula.proofs.Steps.{no_byte, byte_goes, byte_stops, word_on}
use Rattle.sat_formula.proofs.Steps.{word_end, word_goes, word_lf, word_blank, word_number}
use Rattle.sat_formula.proofs.text.Text.word_by_bytes.Goals as goal
use Rattle.sat_formula.proofs.text.Text.word_by_bytes.Goals.{then-not-self+else-byte-eq99+else-byte-eq37+else-byte-eq112, else-not-self}

pub returns-in_err-byte-clause-read : goal.returns-in_err-byte-clause-read
returns-in_err-byte-clause-read g c = λ begun. let s = c.args.self.now in
    exits (ReadsWord _ _ _ (record s { source = c.next_byte.new.self; limited = search rules }) begun) _ _ c.from_residual.ensures.1
    (no_byte c.next_byte.new.self _ _ _ _ _ (λ _. word_end 0 s.line s.past begun s.in_line)
    (leads_nil _ _) c.in_err-byte.ensures.byte (λ e. search rules))

pub returns-then-byte-eq10-clause-read : goal.returns-then-byte-eq10-clause-read
returns-then-byte-eq10-clause-read g c = λ begun. let s = c.args.self.now in
    rw (c.end_line.ensures.source, c.end_line.ensures.state begun)
    (word_goes c.in_ok-byte.byte s begun c.in_ok-byte.ensures.byte (word_lf _ s.line s.past begun s.in_line c.if-byte-eq10.true))

pub returns-then-is_blank-clause-read : goal.returns-then-is_blank-clause-read
returns-then-is_blank-clause-read g c = λ begun. let s = c.args.self.now in
    word_goes c.in_ok-byte.byte s begun c.in_ok-byte.ensures.byte (word_blank _ s.line s.past begun s.in_line c.if-byte-eq10.false (sym c.is_blank.ensures ∙ c.if-is_blank.true))

pub returns-in_err-comment-clause-read : goal.returns-in_err-comment-clause-read
returns-in_err-comment-clause-read g c = λ begun. rw c.if-not-self.true
    (exits (ReadsWord _ _ _ c.comment.new.self begun) _ _ c.from_residual-in_err-comment.ensures.1
    (word_on _ c.comment.new.self begun (Err _) (byte_goes _ _ (leads_nil _ _) (rw c.if-byte-eq99.true at c.in_ok-byte.ensures.byte) refl) (c.in_err-comment.ensures.read begun)))

pub returns-then-byte-eq99-clause-read : goal.returns-then-byte-eq99-clause-read
returns-then-byte-eq99-clause-read g c = λ begun. rw c.if-not-self.true
    (leads_on (byte_goes _ _ (leads_nil _ _) (rw c.if-byte-eq99.true at c.in_ok-byte.ensures.byte) refl) (c.in_ok-comment.ensures.read begun))

pub returns-then-byte-eq37-clause-read : goal.returns-then-byte-eq37-clause-read
returns-then-byte-eq37-clause-read g c = λ begun. rw c.if-not-self.true
    (byte_stops 37 _ (leads_nil _ _) (rw c.if-byte-eq37.true at c.in_ok-byte.ensures.byte) refl)

pub returns-in_err-header-clause-read : goal.returns-in_err-header-clause-read
returns-in_err-header-clause-read g c = λ begun. rw c.if-not-self.true
    (exits (ReadsWord _ _ _ c.header.new.self begun) _ _ c.from_residual-in_err-header.ensures.1
    (word_on _ c.header.new.self begun (Err _) (byte_goes _ _ (leads_nil _ _) (rw c.if-byte-eq112.true at c.in_ok-byte.ensures.byte) refl) (c.in_err-header.ensures.read begun)))

pub returns-then-byte-eq112-clause-read : goal.returns-then-byte-eq112-clause-read
returns-then-byte-eq112-clause-read g c = λ begun. rw c.if-not-self.true
    (leads_on (byte_goes _ _ (leads_nil _ _) (rw c.if-byte-eq112.true at c.in_ok-byte.ensures.byte) refl) (c.in_ok-header.ensures.read begun))

pub returns-clause-read : goal.returns-clause-read
returns-clause-read g c = λ begun. let s = c.args.self.now in
    word_on _ c.number.new.self begun _
    (word_goes c.in_ok-byte.byte s begun c.in_ok-byte.ensures.byte
    (word_number _ s.line s.past begun s.in_line c.if-byte-eq10.false (sym c.is_blank.ensures ∙ c.if-is_blank.false) (λ f. elim c.if-not-self.branch [
      | then-not-self+else-byte-eq99+else-byte-eq37+else-byte-eq112 w ↦ (w.if-byte-eq99.false, w.if-byte-eq37.false, w.if-byte-eq112.false)
      | else-not-self w ↦ let t = w.if-not-self.false in absurd cc
    ])))
    (c.number.ensures.read begun)
