-- What a checker of hints holds, and what it answers to a text.
--     Leads said h k      lines of hints are accepted after h, and lead to k
--     refusal h said      why what a line says is rejected
--     Refuses h text n f      line n is the first that is rejected, and why
--     IsRefusalBy refuses f, IsRefusal h text f      a fault of the checker is that of the text, or memory runs out
--     IsCause f o, in_line f n      a cause of the code, and the fault that it is in line n
--     AcceptsAfter cs xs text o b      all lines of the text are accepted after a formula's clauses and earlier lines
use Rattle.std.specs.Prelude.{◌≡◌, ℕ, suc, Bool, List, ◌∷◌, ◌++◌, length, Option, Some, None}
use Rattle.std.specs.List.{list_any}
use Rattle.std.specs.Option.{option_map}
use Rattle.sat_rules.specs.HintLines.{Follows, HintCause, HintLine, Listed, after_line, id_not_greater, line_cause, listing, no_conflict, not_unit, unknown_id}
use Rattle.sat_formula.specs.Lines.{lines_of}
use Rattle.hint_rules.specs.Accepted.{adds_empty, said_all}
use Rattle.hint_rules.specs.Text as text
use Rattle.hint_rules.specs.Text.{Said, said_by}
use Rattle.hint_checker.specs.declared.fault.HintFault.{HintFault}
use Rattle.hint_checker.specs.declared.fault.HintFault.TheVariants as faults
use Rattle.hint_checker.specs.declared.fault.LineFault.{LineFault}
use Rattle.hint_checker.specs.declared.fault.LineFault.TheVariants as causes

-- these lines of hints are accepted after h, and lead to k
pub record Leads (said : Option (List HintLine)) (h k : Listed) : Type 0 where
  pub lines : List HintLine
  pub all : said ≡ Some lines
  pub follow : Follows h lines k

-- a cause of the rules as one of the code
abbrev pub cause_of : HintCause → LineFault
cause_of id_not_greater = causes.IdNotGreater
cause_of unknown_id = causes.UnknownId
cause_of not_unit = causes.NotUnit
cause_of no_conflict = causes.NoConflict

-- why what a line says is rejected
abbrev pub refusal : Listed → Said → Option LineFault
refusal h text.Nothing = None
refusal h (text.Line x) = option_map cause_of (line_cause h x)
refusal h text.Malformed = Some causes.Malformed

-- what is held after a line
abbrev pub after_said : Listed → Said → Listed
after_said h text.Nothing = h
after_said h (text.Line x) = after_line h x
after_said h text.Malformed = h

-- the lines before line n are accepted after h, and that one is rejected
pub record Refuses (h : Listed) (bytes : List ℕ) (n : ℕ) (fault : LineFault) : Type 0 where
  pub before : List (List ℕ)
  pub line : List ℕ
  pub after : List (List ℕ)
  pub cut : lines_of bytes ≡ before ++ line ∷ after
  pub number : n ≡ suc (length before)
  pub lines : List HintLine
  pub said : said_all before ≡ Some lines
  pub held : Listed
  pub follow : Follows h lines held
  pub refused : refusal held (said_by line) ≡ Some fault

-- a fault of the checker, where it is known which line is rejected and why
abbrev pub IsRefusalBy : (ℕ → LineFault → Type 0) → HintFault → Type 0
IsRefusalBy refuses (faults.Malformed n) = refuses n causes.Malformed
IsRefusalBy refuses (faults.IdNotGreater n) = refuses n causes.IdNotGreater
IsRefusalBy refuses (faults.UnknownId n) = refuses n causes.UnknownId
IsRefusalBy refuses (faults.NotUnit n) = refuses n causes.NotUnit
IsRefusalBy refuses (faults.NoConflict n) = refuses n causes.NoConflict
IsRefusalBy refuses faults.OutOfMemory = Unit {0}

-- a fault of the checker is that of the first line that is rejected, or out of memory
abbrev pub IsRefusal : Listed → List ℕ → HintFault → Type 0
IsRefusal h bytes fault = IsRefusalBy (Refuses h bytes) fault

-- a cause of the code is why it is rejected, or out of memory
abbrev pub IsCause : LineFault → Option LineFault → Type 0
IsCause causes.Malformed o = o ≡ Some causes.Malformed
IsCause causes.IdNotGreater o = o ≡ Some causes.IdNotGreater
IsCause causes.UnknownId o = o ≡ Some causes.UnknownId
IsCause causes.NotUnit o = o ≡ Some causes.NotUnit
IsCause causes.NoConflict o = o ≡ Some causes.NoConflict
IsCause causes.OutOfMemory o = Unit {0}

-- a cause with its line
abbrev pub in_line : LineFault → ℕ → HintFault
in_line causes.Malformed n = faults.Malformed n
in_line causes.IdNotGreater n = faults.IdNotGreater n
in_line causes.UnknownId n = faults.UnknownId n
in_line causes.NotUnit n = faults.NotUnit n
in_line causes.NoConflict n = faults.NoConflict n
in_line causes.OutOfMemory n = faults.OutOfMemory

-- the text's lines are accepted after a formula's clauses and the lines before, and the answer is whether one of all these lines adds the empty clause
pub record AcceptsAfter (formula : List (List ℕ)) (before : List HintLine) (bytes : List ℕ)
    (held : Option Listed) (yes : Bool) : Type 0 where
  pub lines : List HintLine
  pub said : said_all (lines_of bytes) ≡ Some lines
  pub leads_to : Listed
  pub follow : Follows (listing formula) (before ++ lines) leads_to
  pub holds : held ≡ Some leads_to
  pub answer : yes ≡ list_any adds_empty (before ++ lines)
