-- Symbols and a comment: as they are written they are read.
use Rattle.std.proofs.Common.{◌≡◌, ℕ, suc, ◌^◌, ◌<◌, Bool, true, false, List, [], ◌∷◌, ◌++◌, Some, refl, sym, ap, ◌∙◌, append_assoc, inl, inr, arith}
use Rattle.std.specs.Prelude.{None, not}
use Rattle.std.specs.List.{list_all}
use Rattle.std.proofs.lemmas.Bool.{lt-ltb}
use Rattle.std.proofs.lemmas.Bool.Decides.{nat_tests}
use Rattle.sat_formula.specs.Bytes.{is_digit, is_lf}
use Rattle.sat_formula.specs.Digits.{value_after}
use Rattle.sat_formula.specs.Outcome as dimacs
use Rattle.circuit_text.specs.declared.header.Form.{Form}
use Rattle.circuit_text.specs.declared.header.Header.{Header}
use Rattle.circuit_text.specs.declared.spot.Place.TheVariants.{AfterC, Comment, LineStart, Name, Position}
use Rattle.circuit_text.specs.automaton.Aigers.{Says, outcome_at}
use Rattle.circuit_text.specs.Circuits.{Circuit}
use Rattle.circuit_text.specs.automaton.Places.{after, in_position}
use Rattle.circuit_text.specs.Written.{Each, Is, IsKind, IsSized, Number, Rest, Symbol, Then}
use Rattle.circuit_text.specs.Written as written
use Rattle.circuit_text.proofs.WrittenHeaders.{header_of}
use Rattle.circuit_text.proofs.WrittenNumbers.{IsDigitPlace, and_left, and_right, at, byte_read, digit_more, digits_read, number_saturated}

pub position_place : (count : ℕ) → IsDigitPlace (λ v. Position count v) (λ s d b. in_position s count d b)
unfolding after
position_place count = record { byte = λ h line item v b. refl; more = λ h line item v n b. refl; missing = λ s b. refl; within = λ v. refl }

digit_no_lf : (b : ℕ) → is_digit b ≡ true → is_lf b ≡ false
digit_no_lf b e = grind (arith, nat_tests)

not_true : (q : Bool) → not q ≡ true → q ≡ false
not_true true e = absurd cc
not_true false e = refl

module _ (c : Circuit) (h : Header) (item : ℕ) where
  -- a name up to its LF
  pub name_read : (name : List ℕ) (line : ℕ) (more : List ℕ) → list_all (λ b. not (is_lf b)) name ≡ true →
      outcome_at c (at h line item Name) (name ++ 10 ∷ more) ≡ outcome_at c (at h (dimacs.next_line line) item LineStart) more
  unfolding outcome_at after
  name_read [] line more e = refl
  name_read (b ∷ name) line more e =
      byte_read c (at h line item Name) b (name ++ 10 ∷ more)
      ∙ rw (not_true (is_lf b) (and_left (not (is_lf b)) (list_all (λ x. not (is_lf x)) name) e)) refl
      ∙ name_read name line more (and_right (not (is_lf b)) (list_all (λ x. not (is_lf x)) name) e)

  pub comment_read : (any : List ℕ) (line : ℕ) → outcome_at c (at h line item Comment) any ≡ Says (record c { inputs = h.inputs })
  unfolding outcome_at after
  comment_read [] line = refl
  comment_read (b ∷ any) line = comment_read any line

  pub ending_read : (text : List ℕ) (line : ℕ) → written.Comment text → outcome_at c (at h line item LineStart) text ≡ Says (record c { inputs = h.inputs })
  unfolding outcome_at after
  ending_read text line (inl e) = ap (outcome_at c (at h line item LineStart)) e
  ending_read text line (inr e) = ap (outcome_at c (at h line item LineStart)) e.1 ∙ comment_read e.0 (dimacs.next_line line)

  -- after a `c` a digit is of a position
  pub after_c_digit : (line d : ℕ) (more : List ℕ) → is_digit d ≡ true →
      outcome_at c (at h line item AfterC) (d ∷ more) ≡ outcome_at c (at h line item (Position h.constraints None)) (d ∷ more)
  unfolding after
  after_c_digit line d more e = from_c ∙ sym from_start
    where
      from_c : outcome_at c (at h line item AfterC) (d ∷ more) ≡ outcome_at c (at h line item (Position h.constraints (Some (value_after 0 d)))) more
      from_c = byte_read c (at h line item AfterC) d more ∙ rw (digit_no_lf d e, digit_more None d e) refl

      from_start : outcome_at c (at h line item (Position h.constraints None)) (d ∷ more) ≡ outcome_at c (at h line item (Position h.constraints (Some (value_after 0 d)))) more
      from_start = byte_read c (at h line item (Position h.constraints None)) d more ∙ rw (digit_more None d e) refl

  position_read_on : (count position line : ℕ) (ds name more : List ℕ) → Number position ds → position < count → count < 2 ^ 28 → list_all (λ b. not (is_lf b)) name ≡ true →
      outcome_at c (at h line item (Position count None)) (ds ++ 32 ∷ (name ++ 10 ∷ more)) ≡ outcome_at c (at h (dimacs.next_line line) item LineStart) more
  position_read_on count position line ds name more is lt few e =
      digits_read (λ v. Position count v) (λ s d b. in_position s count d b) (position_place count) c h line item None position ds 32 (name ++ 10 ∷ more) is.digits refl
      (number_saturated position ds is (omega arith))
      ∙ rw (lt-ltb position count lt) (name_read name line more e)

  after_c_read : (line position : ℕ) (ds z : List ℕ) → Number position ds →
      outcome_at c (at h line item AfterC) (ds ++ z) ≡ outcome_at c (at h line item (Position h.constraints None)) (ds ++ z)
  after_c_read line position [] z is = let some = is.some in absurd (omega arith)
  after_c_read line position (d ∷ ds) z is = after_c_digit line d (ds ++ z) (and_left (is_digit d) (list_all is_digit ds) is.digits)

  -- the letters
  input_letter : (line : ℕ) (z : List ℕ) → outcome_at c (at h line item LineStart) (105 ∷ z) ≡ outcome_at c (at h line item (Position h.inputs None)) z
  unfolding outcome_at after
  input_letter line z = refl

  latch_letter : (line : ℕ) (z : List ℕ) → outcome_at c (at h line item LineStart) (108 ∷ z) ≡ outcome_at c (at h line item (Position h.latches None)) z
  unfolding outcome_at after
  latch_letter line z = refl

  output_letter : (line : ℕ) (z : List ℕ) → outcome_at c (at h line item LineStart) (111 ∷ z) ≡ outcome_at c (at h line item (Position h.outputs None)) z
  unfolding outcome_at after
  output_letter line z = refl

  bad_letter : (line : ℕ) (z : List ℕ) → outcome_at c (at h line item LineStart) (98 ∷ z) ≡ outcome_at c (at h line item (Position h.bad None)) z
  unfolding outcome_at after
  bad_letter line z = refl

  constraint_letter : (line : ℕ) (z : List ℕ) → outcome_at c (at h line item LineStart) (99 ∷ z) ≡ outcome_at c (at h line item AfterC) z
  unfolding outcome_at after
  constraint_letter line z = refl

module _ (form : Form) (x c r : Circuit) (sized : IsSized x) (item : ℕ) where
  letter_read : (letter count position line : ℕ) (ds z : List ℕ) → IsKind x letter count → Number position ds →
      outcome_at c (at (header_of form x) line item LineStart) (letter ∷ (ds ++ z)) ≡ outcome_at c (at (header_of form x) line item (Position count None)) (ds ++ z)
  letter_read letter count position line ds z (inl e) is = rw (e.0, e.1) (input_letter c (header_of form x) item line (ds ++ z))
  letter_read letter count position line ds z (inr (inl e)) is = rw (e.0, e.1) (latch_letter c (header_of form x) item line (ds ++ z))
  letter_read letter count position line ds z (inr (inr (inl e))) is = rw (e.0, e.1) (output_letter c (header_of form x) item line (ds ++ z))
  letter_read letter count position line ds z (inr (inr (inr (inl e)))) is = rw (e.0, e.1) (bad_letter c (header_of form x) item line (ds ++ z))
  letter_read letter count position line ds z (inr (inr (inr (inr e)))) is =
      rw (e.0, e.1) (constraint_letter c (header_of form x) item line (ds ++ z) ∙ after_c_read c (header_of form x) item line position ds z is)

  count_small : (letter count : ℕ) → IsKind x letter count → count < 2 ^ 28
  count_small letter count (inl e) = let few = sized.variables in let is = e.1 in omega arith
  count_small letter count (inr (inl e)) = let few = sized.variables in let is = e.1 in omega arith
  count_small letter count (inr (inr (inl e))) = let few = sized.outputs in let is = e.1 in omega arith
  count_small letter count (inr (inr (inr (inl e)))) = let few = sized.bad in let is = e.1 in omega arith
  count_small letter count (inr (inr (inr (inr e)))) = let few = sized.constraints in let is = e.1 in omega arith

  symbol_read : (name : List ℕ) (line : ℕ) (text more : List ℕ) → Symbol x name text →
      outcome_at c (at (header_of form x) line item LineStart) (text ++ more) ≡ outcome_at c (at (header_of form x) (dimacs.next_line line) item LineStart) more
  symbol_read name line text more s =
      ap (outcome_at c (at (header_of form x) line item LineStart)) whole
      ∙ letter_read s.letter s.count s.position line s.line.ends.before (32 ∷ (name ++ 10 ∷ more)) s.kind s.line.ends.begins
      ∙ position_read_on c (header_of form x) item s.count s.position line s.line.ends.before name more s.line.ends.begins s.small (count_small s.letter s.count s.kind) s.in_line
    where
      whole : text ++ more ≡ s.letter ∷ (s.line.ends.before ++ 32 ∷ (name ++ 10 ∷ more))
      whole =
          ap (λ (l : List ℕ). l ++ more)
          (s.line.whole ∙ ap (λ (l : List ℕ). l ++ s.line.after) s.line.begins
          ∙ ap (λ (l : List ℕ). s.letter ∷ l) (s.line.ends.whole ∙ ap (λ (l : List ℕ). s.line.ends.before ++ l) s.line.ends.ends))
          ∙ ap (λ (l : List ℕ). s.letter ∷ l)
          (append_assoc s.line.ends.before (32 ∷ (name ++ 10 ∷ [])) more ∙ ap (λ (l : List ℕ). s.line.ends.before ++ 32 ∷ l) (append_assoc name (10 ∷ []) more))

  symbols_read : (names : List (List ℕ)) (v line : ℕ) (text more : List ℕ) → Each (λ v name. Symbol x name) v names text →
      ((line : ℕ) → outcome_at c (at (header_of form x) line item LineStart) more ≡ Says r) → outcome_at c (at (header_of form x) line item LineStart) (text ++ more) ≡ Says r
  symbols_read [] v line text more e k = ap (λ (l : List ℕ). outcome_at c (at (header_of form x) line item LineStart) (l ++ more)) e ∙ k line
  symbols_read (name ∷ names) v line text more t k =
      ap (outcome_at c (at (header_of form x) line item LineStart)) (ap (λ (l : List ℕ). l ++ more) t.whole ∙ append_assoc t.before t.after more)
      ∙ symbol_read name line t.before (t.after ++ more) t.begins
      ∙ symbols_read names (suc v) (dimacs.next_line line) t.after more t.ends k

pub rest_read : (form : Form) (x c : Circuit) (sized : IsSized x) (item line : ℕ) (text : List ℕ) → Rest x text →
    outcome_at c (at (header_of form x) line item LineStart) text ≡ Says (record c { inputs = x.inputs })
rest_read form x c sized item line text rest =
    ap (outcome_at c (at (header_of form x) line item LineStart)) rest.1.whole
    ∙ symbols_read form x c (record c { inputs = x.inputs }) sized item rest.0 0 line rest.1.before rest.1.after rest.1.begins
    (λ line2. ending_read c (header_of form x) item rest.1.after line2 rest.1.ends)
