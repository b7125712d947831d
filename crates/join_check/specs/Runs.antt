-- Runs over receipts and a formula, perhaps with cubes.
--     IsTextShown cnf said v, IsCubesShown cnf cubes said v      the verdict on these texts
--     IsPiecesRun cnf said r, IsCubesRun cnf cubes said r      the same, or why there is none
use Rattle.std.specs.Prelude.{◌≡◌, ℕ, List, Option, Result, Ok, Err, IfSome}
use Rattle.std.specs.Option.{option_map}
use Rattle.sha2.specs.Sha256.{sha256}
use Rattle.sat_formula.specs.declared.fault.DimacsFault.{DimacsFault}
use Rattle.sat_formula.specs.Lines.{outcome_of}
use Rattle.sat_formula.specs.Outcome.{Ended}
use Rattle.sat_formula.specs.Whole.{FailsAfter, IsOutcome}
use Rattle.receipts.specs.Lines.{receipts_text}
use Rattle.receipts.specs.declared.receipt.Receipt.{Receipt}
use Rattle.join_check.specs.Verdicts.{IsCubesVerdict, IsTextVerdict}
use Rattle.join_check.specs.declared.fault.RunFault.{RunFault}
use Rattle.join_check.specs.declared.fault.RunFault.TheVariants.{Receipts, Formula, Cubes, OutOfMemory}
use Rattle.join_check.specs.declared.verdict.Verdict.{Verdict}

-- these are the lines of receipts, and this is their verdict on the text
pub record IsTextShown (cnf said : Option (List ℕ)) (verdict : Verdict) : Type 0 where
  pub receipts : List Receipt
  pub lines : IfSome said (λ text. text ≡ receipts_text receipts)
  pub shown : IfSome cnf (λ text. IsTextVerdict receipts (sha256 text) verdict)

-- these are the lines of receipts, a formula and cubes, and this is the verdict on them
pub record IsCubesShown (cnf cubes said : Option (List ℕ)) (verdict : Verdict) : Type 0 where
  pub receipts : List Receipt
  pub lines : IfSome said (λ text. text ≡ receipts_text receipts)
  pub formula : List (List ℕ)
  pub whole : IsOutcome (option_map outcome_of cnf) (formula, Ended)
  pub split : List (List ℕ)
  pub parted : IsOutcome (option_map outcome_of cubes) (split, Ended)
  pub shown : IsCubesVerdict receipts formula split verdict

-- the text has this fault after some clauses
abbrev pub FailsText : Option (List ℕ) → DimacsFault → Type 0
FailsText text fault = (clauses : List (List ℕ)) × FailsAfter (option_map outcome_of text) clauses fault

-- the verdict; of a fault nothing is said but that there are no cubes
abbrev pub IsPiecesRun : Option (List ℕ) → Option (List ℕ) → Result Verdict RunFault → Type 0
IsPiecesRun cnf said (Ok verdict) = IsTextShown cnf said verdict
IsPiecesRun cnf said (Err (Receipts fault)) = Unit {0}
IsPiecesRun cnf said (Err (Formula fault)) = Unit {0}
IsPiecesRun cnf said (Err (Cubes fault)) = ⊥
IsPiecesRun cnf said (Err OutOfMemory) = Unit {0}

-- the fault of the formula or of the cubes, or the verdict
abbrev pub IsCubesRun : Option (List ℕ) → Option (List ℕ) → Option (List ℕ) → Result Verdict RunFault → Type 0
IsCubesRun cnf cubes said (Ok verdict) = IsCubesShown cnf cubes said verdict
IsCubesRun cnf cubes said (Err (Receipts fault)) = Unit {0}
IsCubesRun cnf cubes said (Err (Formula fault)) = FailsText cnf fault
IsCubesRun cnf cubes said (Err (Cubes fault)) = FailsText cubes fault
IsCubesRun cnf cubes said (Err OutOfMemory) = Unit {0}
