-- Verdicts on a set of literals and a formula, and their lines.
--     IsVerdict listed formula lines v      this holds of the set and the formula, whose clauses end on these lines
--     IsJudged text listed v cut      the text is a formula, this holds of it, and this is missing of it
--     FailsText text fault      the text is none
use Rattle.std.specs.Prelude.{◌≡◌, ℕ, ◌+◌, Bool, true, false, List, ◌∷◌, ◌++◌, length, Option, codes}
use Rattle.std.specs.Option.{option_map}
use Rattle.sat_formula.specs.declared.fault.DimacsFault.{DimacsFault}
use Rattle.sat_formula.specs.Outcome as dimacs
use Rattle.sat_formula.specs.Lines as dimacs_lines
use Rattle.sat_formula.specs.Notes.{Notes, notes_of}
use Rattle.sat_formula.specs.Noting.{IsNotes}
use Rattle.sat_formula.specs.Whole as dimacs_text
use Rattle.answer_text.specs.Literals.{is_met, all_met}
use Rattle.model_check.specs.Wholeness.{cut_of}
use Rattle.model_check.specs.declared.whole.CutFormula.{CutFormula}
use Rattle.model_check.specs.declared.verdict.Verdict.{Verdict}
use Rattle.model_check.specs.declared.verdict.Verdict.TheVariants.{Verified, NotVerified}

-- the text of a verdict and a line feed, as bytes
abbrev pub shown_line : Verdict → List ℕ
shown_line Verified = codes "s VERIFIED SAT\n"
shown_line (NotVerified clause line) = codes "s NOT VERIFIED\n"

-- the literals satisfy the formula
abbrev pub shows_sat : Verdict → Bool
shows_sat Verified = true
shows_sat (NotVerified clause line) = false

-- the clause of this number, counted from 1, is the first one that has no literal of the set
pub record IsFirstUnmet (listed : ℕ → Bool) (formula : List (List ℕ)) (number : ℕ) : Type 0 where
  pub before : List (List ℕ)
  pub clause : List ℕ
  pub rest : List (List ℕ)
  pub split : formula ≡ before ++ clause ∷ rest
  pub place : number ≡ length before + 1
  pub met : all_met listed before ≡ true
  pub unmet : is_met listed clause ≡ false

-- this is the one of the lines that has this number, counted from 1
pub record IsLineOf (lines : List ℕ) (number line : ℕ) : Type 0 where
  pub before : List ℕ
  pub rest : List ℕ
  pub split : lines ≡ before ++ line ∷ rest
  pub place : number ≡ length before + 1

-- each clause has a literal of the set; or this one is the first that has none, and it ends on this line
abbrev pub IsVerdict : (ℕ → Bool) → List (List ℕ) → List ℕ → Verdict → Type 0
IsVerdict listed formula lines Verified = all_met listed formula ≡ true
IsVerdict listed formula lines (NotVerified number line) =
    IsFirstUnmet listed formula number × IsLineOf lines number line

-- the text has no fault, the verdict is that on its clauses and their lines, and this is missing of them
pub record IsJudged (text : Option (List ℕ)) (listed : ℕ → Bool) (verdict : Verdict)
    (cut : Option CutFormula) : Type 0 where
  pub formula : List (List ℕ)
  pub whole : dimacs_text.IsOutcome (option_map dimacs_lines.outcome_of text) (formula, dimacs.Ended)
  pub notes : Notes
  pub noted : IsNotes (option_map notes_of text) notes
  pub shown : IsVerdict listed formula notes.0 verdict
  pub lacks : cut_of notes.1.header (length formula) ≡ cut

-- the text has this fault after some clauses
abbrev pub FailsText : Option (List ℕ) → DimacsFault → Type 0
FailsText text fault = (clauses : List (List ℕ))
    × dimacs_text.FailsAfter (option_map dimacs_lines.outcome_of text) clauses fault
