-- From the answers of many calls of a reader to what is known of the whole text.
--     HasTold      between two readers these clauses were given, which end on these lines, and were counted
--     HasTold-nil, HasTold-more      a new reader; a call that gave a clause
--     counted-ended      a call that found the end: the counts are those of the clauses
--     counts-few, IsLie-counted      as the two counts of a header, and whether it disagrees with them
use Rattle.std.proofs.Common.{◌≡◌, ℕ, Bool, true, false, ◌+◌, ◌-◌, ◌^◌, ◌<◌, ◌≤◌, List, [], ◌∷◌, ◌++◌, length, Some, None, Ok, refl, sym, ap, ◌∙◌, arith, length-append}
use Rattle.std.specs.Prelude.{min}
use Rattle.std.specs.Option.{option_map}
use Rattle.sat_formula.specs.declared.counts.Counts.{Counts}
use Rattle.sat_formula.specs.declared.dimacs.DimacsReader.{DimacsReader}
use Rattle.sat_formula.specs.Counts.{lie_of}
use Rattle.sat_formula.specs.DimacsReader.{bytes_left, clauses_given, counted, has_ended, standing, vars_given}
use Rattle.sat_formula.specs.Formula.{var_count_of, vars_with}
use Rattle.sat_formula.specs.Lines.{outcome_of}
use Rattle.sat_formula.specs.Notes.{Notes, notes_of}
use Rattle.sat_formula.specs.Noting.{HasNoted, IsNotes}
use Rattle.sat_formula.specs.Outcome.{Ended, Outcome}
use Rattle.sat_formula.specs.Text.{past_of}
use Rattle.sat_formula.specs.Whole.{HasGiven, IsOutcome}
use Rattle.sat_formula.proofs.Formulas.{var_count_of-append}
use Rattle.sat_formula.proofs.Notes.{HasNoted-more, HasNoted-nil}
use Rattle.sat_formula.specs.Readings.{Known}
use Rattle.sat_formula.proofs.Whole.{AfterEnd, Reads, HasGiven-more, HasGiven-nil}
use Rattle.sat_formula.specs.Lies.{IsLie, counts_of}

-- from a new reader on these clauses were given, which end on these lines; the reader has counted them, and there are no more than it can count
pub record HasTold {R : Type 0} (remaining : R → Known) (old : DimacsReader R) (clauses : List (List ℕ))
    (lines : List ℕ) (new : DimacsReader R) : Type 0 where
  pub given : HasGiven remaining old clauses new
  pub noted : HasNoted remaining old lines new
  pub vars : vars_given new ≡ var_count_of clauses
  pub number : clauses_given new ≡ length clauses
  pub even : length lines ≡ length clauses
  pub room : length clauses + bytes_left new ≤ 2 ^ 64 - 1

pub HasTold-nil : {R : Type 0} (remaining : R → Known) (r : DimacsReader R) → vars_given r ≡ 0 → clauses_given r ≡ 0 → bytes_left r ≡ 2 ^ 64 - 1 → HasTold remaining r [] [] r
HasTold-nil remaining r vars number room = record {
  given = HasGiven-nil remaining r;
  noted = HasNoted-nil remaining r;
  vars = vars;
  number = number;
  even = refl;
  room = omega (arith, room);
}

-- one clause more, where fewer bytes are left after it
one_more : (count mid left new now : ℕ) → mid ≡ count → count + left ≤ 2 ^ 64 - 1 → now < left → new ≡ min (mid + 1) (2 ^ 64 - 1)
    → (new ≡ count + 1) × (count + 1 + now ≤ 2 ^ 64 - 1)
one_more count mid left new now was room near e = (omega (arith, was, room, near, e), omega (arith, room, near))

module _ {R : Type 0} (remaining : R → Known) (old mid new : DimacsReader R) (clauses : List (List ℕ)) (lines clause : List ℕ) (told : HasTold remaining old clauses lines mid) where
  -- a call that gave a clause; the premises are clauses of `next_clause`
  pub HasTold-more : AfterEnd mid new clause (Ok true) → Reads remaining mid new clause (Ok true) → bytes_left new < bytes_left mid → clauses_given new ≡ counted (clauses_given mid) (Ok true)
      → vars_given new ≡ vars_with (vars_given mid) clause → HasTold remaining old (clauses ++ clause ∷ []) (lines ++ (past_of (standing new)).clause_line ∷ []) new
  HasTold-more after read near count vars =
      let line = (past_of (standing new)).clause_line in
      let more = one_more (length clauses) (clauses_given mid) (bytes_left mid) (clauses_given new) (bytes_left new) told.number told.room near count in
      let length_is : length (clauses ++ clause ∷ []) ≡ length clauses + 1 = length-append clauses (clause ∷ []) in
      record {
        given = HasGiven-more remaining old mid new clauses clause told.given after read;
        noted = HasNoted-more remaining old mid new lines clause told.noted after read;
        vars = vars ∙ ap (λ (n : ℕ). vars_with n clause) told.vars ∙ sym (var_count_of-append clauses clause);
        number = more.0 ∙ sym length_is;
        even = length-append lines (line ∷ []) ∙ ap (λ (n : ℕ). n + 1) told.even ∙ sym length_is;
        room = rw length_is more.1;
      }

  none_given : (ended : Bool) → ended ≡ has_ended mid → AfterEnd mid new clause (Ok false) → Reads remaining mid new clause (Ok false) → clause ≡ []
  none_given true e after read = (after (sym e)).2
  none_given false e after read = (read (sym e)).1.0

  -- a call that found the end
  pub counted-ended : AfterEnd mid new clause (Ok false) → Reads remaining mid new clause (Ok false) → clauses_given new ≡ counted (clauses_given mid) (Ok false)
      → vars_given new ≡ vars_with (vars_given mid) clause → (vars_given new ≡ var_count_of clauses) × (clauses_given new ≡ length clauses)
  counted-ended after read count vars =
      (vars ∙ ap (vars_with (vars_given mid)) (none_given (has_ended mid) refl after read) ∙ told.vars, count ∙ told.number)

-- ---- counts

abbrev both : ℕ → ℕ → Counts
both variables clauses = record { variables = variables; clauses = clauses }

counts_are : (v w n k : ℕ) → v ≡ w → n ≡ k → both v n ≡ both w k
counts_are v w n k e f = rw (e, f) refl

pub counts-few : (clauses : List (List ℕ)) (vars number left : ℕ) → vars ≡ var_count_of clauses → number ≡ length clauses → length clauses + left ≤ 2 ^ 64 - 1 → both vars number ≡ counts_of clauses
counts-few clauses vars number left e f room =
    let few : number ≡ min (length clauses) (2 ^ 64 - 1) = omega (arith, f, room) in
    counts_are _ _ _ _ e few

-- the outcome and the notes of a text are its clauses and its header
pub IsLie-counted : (known : Known) (clauses : List (List ℕ)) (n : Notes) (counts : Counts) → IsOutcome (option_map outcome_of known) (clauses, Ended) → IsNotes (option_map notes_of known) n → counts ≡ counts_of clauses
    → IsLie known (lie_of n.1.header counts)
IsLie-counted None clauses n counts o p e = tt
IsLie-counted (Some text) clauses n counts o p e =
    ap (lie_of n.1.header) (e ∙ sym (ap (λ (said : Outcome). counts_of said.0) o))
    ∙ sym (ap (λ (m : Notes). lie_of m.1.header (counts_of (outcome_of text).0)) p)
