-- Texts that a reader gives.
--     GivesText known text      a reader with these bytes gave this text
--     ReadsAccepted, IsCutOff, IsTextRefusal      the answers to the text of a reader
use Rattle.std.specs.Prelude.{◌≡◌, ℕ, Bool, List, ◌++◌, Option, Some, IfSome}
use Rattle.std.specs.Io.KnownBytes.{Consumes}
use Rattle.sat_rules.specs.HintLines.{Listed}
use Rattle.lrat_text.specs.Bytes.{IsOpen}
use Rattle.hint_rules.specs.Accepted.{Accepts}
use Rattle.hint_checker.specs.Checked.{IsRefusal}
use Rattle.hint_checker.specs.declared.fault.HintTextFault.{HintTextFault}
use Rattle.hint_checker.specs.declared.fault.HintTextFault.TheVariants.{Read, Refused}

-- a reader with these bytes gave this text
abbrev pub GivesText : Option (List ℕ) → List ℕ → Type 0
GivesText known text = IfSome known (λ bytes. text ≡ bytes)

-- all lines of the reader's text are accepted after h; the answer says whether the empty clause was added
pub record ReadsAccepted (known : Option (List ℕ)) (h : Listed) (after : Option Listed)
    (yes : Bool) : Type 0 where
  pub text : List ℕ
  pub gives : GivesText known text
  pub held : Listed
  pub accepts : Accepts h text held
  pub holds : after ≡ Some held
  pub answer : yes ≡ held.added_empty

-- some lines of the reader's text were accepted after h, and it was read no further than into the one after them
pub record IsCutOff (known : Option (List ℕ)) (h : Listed) : Type 0 where
  pub taken : List ℕ
  pub begun : List ℕ
  pub left : Option (List ℕ)
  pub consumed : Consumes known left (taken ++ begun)
  pub is_open : IsOpen begun
  pub held : Listed
  pub accepts : Accepts h taken held

-- the fault is that of the reader's text, or a read failed after lines that were accepted
abbrev pub IsTextRefusal : Option (List ℕ) → Listed → HintTextFault → Type 0
IsTextRefusal known h (Refused fault) = (text : List ℕ) × GivesText known text × IsRefusal h text fault
IsTextRefusal known h (Read cause) = IsCutOff known h
