-- What a run writes.
--     bytes_in contents w      the bytes that a writer holds, where there is one
--     IsPartOf used formula      some of the formula's clauses, in their order
--     IfWanted w P      where there is a writer
--     HasWritten      lines that a checker has accepted were written, and their steps
--     WroteProof, BeganLines      lines that refute the formula were written, and their steps, or beginnings for lines that were accepted
--     WroteCore, BeganCore      a part of the formula was written as a formula, or a beginning of that
--     IsLineFault r      no fault but of making and writing lines
--     WritesOutputs      what a run wrote
use Rattle.std.specs.Prelude.{◌≡◌, ℕ, Bool, true, false, List, [], ◌∷◌, length, Option, Some, None, Result, Ok, Err}
use Rattle.std.specs.Io.KnownBytes.{Appends}
use Rattle.sat_rules.specs.Named.{Item}
use Rattle.lrat_rules.specs.Lines.{Line, is_refuted, run}
use Rattle.lrat_rules.specs.Stores.{formula_store}
use Rattle.lrat_checker.specs.Standing.{IsReady}
use Rattle.lrat_checker.specs.declared.checker.LratChecker.{LratChecker}
use Rattle.sat_output.specs.DratTexts.{steps_text}
use Rattle.sat_output.specs.FormulaTexts.{formula_text}
use Rattle.sat_output.specs.LineForms.{lines_in}
use Rattle.sat_output.specs.declared.form.LineForm.{LineForm}
use Rattle.whole_writes.specs.Beginnings.{AppendsBeginning}
use Rattle.verdicts.specs.declared.verdict.Verdict.{Verdict}
use Rattle.verdicts.specs.declared.verdict.Verdict.TheVariants.{Verified, NotVerified}
use Rattle.drat_check.specs.declared.fault.RunFault.{RunFault}
use Rattle.drat_check.specs.declared.fault.RunFault.TheVariants.{Formula, Proof, Lrat, Trim, Core}
use Rattle.drat_check.specs.declared.outputs.Outputs.{Outputs}

-- the bytes that a writer holds, where there is one and they are known
abbrev pub bytes_in : {W : Type 0} → (W → Option (List ℕ)) → Option W → Option (List ℕ)
bytes_in contents None = None
bytes_in contents (Some w) = contents w

-- where there is a writer
abbrev pub IfWanted : {W : Type 0} → Option W → Type 0 → Type 0
IfWanted None P = Unit {0}
IfWanted (Some w) P = P

-- ---- the proof's lines

-- a checker has accepted lines, and holds what is stored after them; they were written, and to another writer the steps of DRAT that they are
pub record HasWritten (form : LineForm) (formula : List (List ℕ)) (lrat lrat' trim trim' : Option (List ℕ)) (checker : LratChecker) : Type 0 where
  pub lines : List Line
  pub ready : IsReady formula lines checker
  pub text : Appends lrat lrat' (lines_in form (length formula) lines)
  pub trimmed : Appends trim trim' (steps_text false (formula_store formula) lines)

-- lines of which the checker's rules say that they refute the formula were written, and to another writer the steps of DRAT that they are
pub record WroteProof (form : LineForm) (formula : List (List ℕ)) (lrat lrat' trim trim' : Option (List ℕ)) : Type 0 where
  pub lines : List Line
  pub refuted : is_refuted formula lines ≡ true
  pub text : Appends lrat lrat' (lines_in form (length formula) lines)
  pub trimmed : Appends trim trim' (steps_text false (formula_store formula) lines)

-- of lines that these rules accept after the formula, a beginning was written, or all, and so of their steps
pub record BeganLines (form : LineForm) (formula : List (List ℕ)) (lrat lrat' trim trim' : Option (List ℕ)) : Type 0 where
  pub lines : List Line
  pub store : List Item
  pub accepted : run (formula_store formula) lines ≡ Some store
  pub text : AppendsBeginning lrat lrat' (lines_in form (length formula) lines)
  pub trimmed : AppendsBeginning trim trim' (steps_text false (formula_store formula) lines)

-- ---- the used clauses

-- the clauses whose flag is set
abbrev pub flagged : List Bool → List (List ℕ) → List (List ℕ)
flagged [] clauses = []
flagged (b ∷ flags) [] = []
flagged (true ∷ flags) (c ∷ clauses) = c ∷ flagged flags clauses
flagged (false ∷ flags) (c ∷ clauses) = flagged flags clauses

-- some of the clauses, in their order
abbrev pub IsPartOf : List (List ℕ) → List (List ℕ) → Type 0
IsPartOf used formula = (flags : List Bool) × (used ≡ flagged flags formula)

-- a part of the formula was written as a formula
pub record WroteCore (formula : List (List ℕ)) (old new : Option (List ℕ)) : Type 0 where
  pub used : List (List ℕ)
  pub is_part : IsPartOf used formula
  pub text : Appends old new (formula_text used)

-- of the text of a part, a beginning was written, or all
pub record BeganCore (formula : List (List ℕ)) (old new : Option (List ℕ)) : Type 0 where
  pub used : List (List ℕ)
  pub is_part : IsPartOf used formula
  pub text : AppendsBeginning old new (formula_text used)

-- ---- runs

-- no fault but one of making and writing lines
abbrev pub IsLineFault : {A : Type 0} → Result A RunFault → Type 0
IsLineFault (Ok x) = Unit {0}
IsLineFault (Err (Formula fault)) = ⊥
IsLineFault (Err (Proof fault)) = Unit {0}
IsLineFault (Err (Lrat cause)) = Unit {0}
IsLineFault (Err (Trim cause)) = Unit {0}
IsLineFault (Err (Core cause)) = ⊥

module _ {L C : Type 0} (formula : List (List ℕ)) (lrat : L → Option (List ℕ)) (core : C → Option (List ℕ))
    (s s' : Outputs L C) where
  -- lines that refute the formula are written whole, with their steps, and a part of the formula
  abbrev pub AllWritten : Type 0
  AllWritten = WroteProof s.form formula (bytes_in lrat s.lrat) (bytes_in lrat s'.lrat)
      (bytes_in lrat s.trim) (bytes_in lrat s'.trim)
      × WroteCore formula (bytes_in core s.core) (bytes_in core s'.core)

  -- of the lines a beginning was written, and so of their steps, and of the part nothing
  abbrev pub LinesBegan : Type 0
  LinesBegan = BeganLines s.form formula (bytes_in lrat s.lrat) (bytes_in lrat s'.lrat)
      (bytes_in lrat s.trim) (bytes_in lrat s'.trim)
      × (s'.core ≡ s.core)

  -- what the verdict relies on was written, if it says anything
  abbrev pub WritesFor : Verdict → Type 0
  WritesFor Verified = AllWritten
  WritesFor NotVerified = s' ≡ s

  -- what was written, by what the run returned
  abbrev pub WritesOutputs : Result Verdict RunFault → Type 0
  WritesOutputs (Ok verdict) = WritesFor verdict
  WritesOutputs (Err (Formula fault)) = s' ≡ s
  WritesOutputs (Err (Proof fault)) = LinesBegan
  WritesOutputs (Err (Lrat cause)) = LinesBegan
  WritesOutputs (Err (Trim cause)) = LinesBegan
  WritesOutputs (Err (Core cause)) =
      WroteProof s.form formula (bytes_in lrat s.lrat) (bytes_in lrat s'.lrat)
      (bytes_in lrat s.trim) (bytes_in lrat s'.trim)
      × BeganCore formula (bytes_in core s.core) (bytes_in core s'.core)
