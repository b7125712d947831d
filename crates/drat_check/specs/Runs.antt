-- Runs of a DRAT or FRAT proof after a formula.
--     IsShown formula verdict      a verdict that is true
--     IsAfterFormula fault      one that comes once the formula was read
--     IsProofRun, IsCheckRun      the run of a proof after a formula, and after a formula's text
--     HasNoFormula r      the text was not read whole as a formula
--     RunTellsLie cnf r told      this is reported of the formula's header
use Rattle.std.specs.Prelude.{◌≡◌, ℕ, List, Option, None, Result, Ok, Err}
use Rattle.std.specs.Option.{option_map}
use Rattle.sat_formula.specs.declared.counts.LyingHeader.{LyingHeader}
use Rattle.sat_formula.specs.Lines as dimacs
use Rattle.sat_formula.specs.Whole.{FailsAfter}
use Rattle.sat_formula.specs.Lies.{IsLie}
use Rattle.verdicts.specs.Texts.{IsUnsatisfiable, OfFormula}
use Rattle.verdicts.specs.declared.verdict.Verdict.{Verdict}
use Rattle.verdicts.specs.declared.verdict.Verdict.TheVariants.{Verified, NotVerified}
use Rattle.drat_check.specs.declared.fault.RunFault.{RunFault}
use Rattle.drat_check.specs.declared.fault.RunFault.TheVariants.{Formula, Proof, Lrat, Trim, Core}

-- where it is verified, no assignment satisfies the formula
abbrev pub IsShown : List (List ℕ) → Verdict → Type 0
IsShown formula Verified = IsUnsatisfiable formula
IsShown formula NotVerified = Unit {0}

-- one of the proof, or of an output
abbrev pub IsAfterFormula : RunFault → Type 0
IsAfterFormula (Formula fault) = ⊥
IsAfterFormula (Proof fault) = Unit {0}
IsAfterFormula (Lrat cause) = Unit {0}
IsAfterFormula (Trim cause) = Unit {0}
IsAfterFormula (Core cause) = Unit {0}

-- the verdict is true; the formula was there
abbrev pub IsProofRun : List (List ℕ) → Result Verdict RunFault → Type 0
IsProofRun formula (Ok verdict) = IsShown formula verdict
IsProofRun formula (Err fault) = IsAfterFormula fault

-- the run over both texts: a formula that was not read whole is answered, and else the proof's run
abbrev pub IsCheckRun : Option (List ℕ) → Result Verdict RunFault → Type 0
IsCheckRun cnf (Ok verdict) = OfFormula cnf (λ formula. IsShown formula verdict)
IsCheckRun cnf (Err (Formula fault)) = (clauses : List (List ℕ))
    × FailsAfter (option_map dimacs.outcome_of cnf) clauses fault
IsCheckRun cnf (Err (Proof fault)) = OfFormula cnf (λ formula. Unit {0})
IsCheckRun cnf (Err (Lrat cause)) = OfFormula cnf (λ formula. Unit {0})
IsCheckRun cnf (Err (Trim cause)) = OfFormula cnf (λ formula. Unit {0})
IsCheckRun cnf (Err (Core cause)) = OfFormula cnf (λ formula. Unit {0})

-- the formula was not read whole
abbrev pub HasNoFormula : Result Verdict RunFault → Type 0
HasNoFormula (Ok verdict) = ⊥
HasNoFormula (Err (Formula fault)) = Unit {0}
HasNoFormula (Err (Proof fault)) = ⊥
HasNoFormula (Err (Lrat cause)) = ⊥
HasNoFormula (Err (Trim cause)) = ⊥
HasNoFormula (Err (Core cause)) = ⊥

-- the mismatch of the header, if the formula was read whole; else nothing
abbrev pub RunTellsLie : Option (List ℕ) → Result Verdict RunFault → Option LyingHeader → Type 0
RunTellsLie cnf (Ok verdict) told = IsLie cnf told
RunTellsLie cnf (Err (Formula fault)) told = told ≡ None
RunTellsLie cnf (Err (Proof fault)) told = IsLie cnf told
RunTellsLie cnf (Err (Lrat cause)) told = IsLie cnf told
RunTellsLie cnf (Err (Trim cause)) told = IsLie cnf told
RunTellsLie cnf (Err (Core cause)) told = IsLie cnf told
