-- Runs of an answer after a formula.
--     IsCheckRun cnf answer r      the verdict on the two texts, or why there is none
--     RunTellsLie cnf r told      this is reported of the formula's header
use Rattle.std.specs.Prelude.{◌≡◌, ℕ, List, Option, Some, None, Result, Ok, Err}
use Rattle.std.specs.Option.{option_map}
use Rattle.sat_formula.specs.declared.counts.LyingHeader.{LyingHeader}
use Rattle.sat_formula.specs.declared.fault.DimacsFault.{DimacsFault}
use Rattle.sat_formula.specs.Lines as dimacs
use Rattle.sat_formula.specs.Whole.{FailsAfter}
use Rattle.sat_formula.specs.Lies.{IsLie}
use Rattle.answer_text.specs.Answers.{Lists}
use Rattle.answer_text.specs.Literals.{IsConsistent, listed}
use Rattle.answer_text.specs.Reading.{IsOutcome, FailsBy}
use Rattle.model_check.specs.Verdicts.{IsJudged}
use Rattle.model_check.specs.declared.whole.CutFormula.{CutFormula}
use Rattle.model_check.specs.declared.fault.RunFault.{RunFault}
use Rattle.model_check.specs.declared.fault.RunFault.TheVariants.{Answer, Formula, Cut}
use Rattle.model_check.specs.declared.verdict.Verdict.{Verdict}

-- the answer lists these literals, of which no two are opposite, the verdict is that on them and the formula, and this is missing of it
pub record IsShown (cnf answer : Option (List ℕ)) (verdict : Verdict) (cut : Option CutFormula) :
    Type 0 where
  pub lits : List ℕ
  pub lists : IsOutcome answer (Lists lits)
  pub apart : IsConsistent (listed lits)
  pub judged : IsJudged cnf (listed lits) verdict cut

-- the answer lists these literals, and the formula has this fault after these clauses
pub record IsAnswered (cnf answer : Option (List ℕ)) (fault : DimacsFault) : Type 0 where
  pub lits : List ℕ
  pub lists : IsOutcome answer (Lists lits)
  pub clauses : List (List ℕ)
  pub fails : FailsAfter (option_map dimacs.outcome_of cnf) clauses fault

-- the run over both texts: the fault of the answer, then that of the formula, then what is missing of it, then the verdict
abbrev pub IsCheckRun : Option (List ℕ) → Option (List ℕ) → Result Verdict RunFault → Type 0
IsCheckRun cnf answer (Ok verdict) = IsShown cnf answer verdict None
IsCheckRun cnf answer (Err (Answer fault)) = FailsBy answer fault
IsCheckRun cnf answer (Err (Formula fault)) = IsAnswered cnf answer fault
IsCheckRun cnf answer (Err (Cut cut)) = (verdict : Verdict) × IsShown cnf answer verdict (Some cut)

-- the mismatch of the header, if the formula was read whole; else nothing
abbrev pub RunTellsLie : Option (List ℕ) → Result Verdict RunFault → Option LyingHeader → Type 0
RunTellsLie cnf (Err (Answer fault)) told = told ≡ None
RunTellsLie cnf (Err (Formula fault)) told = told ≡ None
RunTellsLie cnf r told = IsLie cnf told
