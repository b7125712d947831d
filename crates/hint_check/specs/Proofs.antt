-- A proof in lines of hints, text or binary.
--     Accepts ids h bytes k, Refuses ids h bytes n fault      binary lines are all accepted;  line n is the first that is rejected
--     AcceptsIn, RefusesIn      so it is with a text in this form
--     AcceptsProof, IsProofRefusal      so it is with the text of a reader
use Rattle.std.specs.Prelude.{◌≡◌, ℕ, Bool, List, Option}
use Rattle.sat_rules.specs.HintLines.{Listed}
use Rattle.lrat_rules.specs.Lines.{Line}
use Rattle.lrat_text.specs.Texts.{Ended, Outcome, with_lines}
use Rattle.lrat_binary.specs.Lines.{binary_of}
use Rattle.lrat_binary.specs.declared.ids.Ids.{Ids}
use Rattle.lrat_binary.specs.declared.ids.LratForm.{LratForm}
use Rattle.lrat_binary.specs.declared.ids.LratForm.TheVariants.{Binary, Text}
use Rattle.hint_rules.specs.Accepted as rules
use Rattle.hint_checker.specs.Checked as texts
use Rattle.hint_checker.specs.Checked.{IsRefusalBy, Leads}
use Rattle.hint_checker.specs.Given.{Stops, lines_said}
use Rattle.hint_checker.specs.Streams.{GivesText}
use Rattle.hint_checker.specs.declared.fault.HintTextFault.{HintTextFault}
use Rattle.hint_checker.specs.declared.fault.HintTextFault.TheVariants.{Read, Refused}
use Rattle.hint_checker.specs.declared.fault.LineFault.{LineFault}

-- all binary lines of the bytes are accepted after h, and lead to k
pub record Accepts (ids : Ids) (h : Listed) (bytes : List ℕ) (k : Listed) : Type 0 where
  pub given : List (ℕ × Line)
  pub says : binary_of ids bytes ≡ (given, Ended)
  pub leads_to : Leads (lines_said given) h k

-- the binary lines before line n are accepted after h, and that one is rejected
pub record Refuses (ids : Ids) (h : Listed) (bytes : List ℕ) (n : ℕ) (fault : LineFault) : Type
    0 where
  pub before : List (ℕ × Line)
  pub later : Outcome
  pub cut : binary_of ids bytes ≡ with_lines before later
  pub held : Listed
  pub leads_to : Leads (lines_said before) h held
  pub stops : Stops held later.0 later.1 n fault

-- all lines of a text in this form
abbrev pub AcceptsIn : LratForm → Listed → List ℕ → Listed → Type 0
AcceptsIn Text h text k = rules.Accepts h text k
AcceptsIn (Binary ids) h text k = Accepts ids h text k

-- those before line n
abbrev pub RefusesIn : LratForm → Listed → List ℕ → ℕ → LineFault → Type 0
RefusesIn Text h text n fault = texts.Refuses h text n fault
RefusesIn (Binary ids) h text n fault = Refuses ids h text n fault

-- all lines of the reader's text, and the answer says whether one added the empty clause
pub record AcceptsProof (form : LratForm) (known : Option (List ℕ)) (h : Listed) (yes : Bool) :
    Type 0 where
  pub text : List ℕ
  pub gives : GivesText known text
  pub held : Listed
  pub accepts : AcceptsIn form h text held
  pub answer : yes ≡ held.added_empty

-- the fault is that of the reader's text, or a read failed
abbrev pub IsProofRefusal : LratForm → Option (List ℕ) → Listed → HintTextFault → Type 0
IsProofRefusal form known h (Refused fault) = (text : List ℕ) × GivesText known text
    × IsRefusalBy (RefusesIn form h text) fault
IsProofRefusal form known h (Read cause) = Unit {0}
