-- Runs of a proof and models after a formula.
--     IsMinimalRun cnf r      a verdict on the formula, or why there is none
--     IsEarlyCore r      a verdict, or a fault of the proof or of the models
use Rattle.std.specs.Prelude.{◌≡◌, ℕ, false, List, Option, Result, Ok, Err, IfSome}
use Rattle.std.specs.Option.{option_map}
use Rattle.sat_formula.specs.Lines.{outcome_of}
use Rattle.sat_formula.specs.Outcome.{Ended}
use Rattle.sat_formula.specs.Whole.{IsOutcome}
use Rattle.sat_formula.specs.Lies.{lie_in}
use Rattle.model_check.specs.Verdicts.{FailsText}
use Rattle.follows_check.specs.Claims.{LacksClauses, lacks_clauses}
use Rattle.follows_check.specs.Minimal.{ShowsMinimal}
use Rattle.follows_check.specs.declared.minimal.CoreFault.{CoreFault}
use Rattle.follows_check.specs.declared.minimal.CoreFault.TheVariants.{Formula, FewClauses, Proof, Models}
use Rattle.follows_check.specs.declared.minimal.MinimalVerdict.{MinimalVerdict}

-- the whole text is a formula, its header says no more clauses than there are, and this holds of it
pub record OfCore (cnf : Option (List ℕ)) (P : List (List ℕ) → Type 0) : Type 0 where
  pub formula : List (List ℕ)
  pub whole : IsOutcome (option_map outcome_of cnf) (formula, Ended)
  pub complete : IfSome cnf (λ text. lacks_clauses (lie_in text) ≡ false)
  pub holds : P formula

-- the fault of the formula, then one of the proof or the models, then the verdict
abbrev pub IsMinimalRun : Option (List ℕ) → Result MinimalVerdict CoreFault → Type 0
IsMinimalRun cnf (Ok verdict) = OfCore cnf (λ formula. ShowsMinimal formula verdict)
IsMinimalRun cnf (Err (Formula fault)) = FailsText cnf fault
IsMinimalRun cnf (Err FewClauses) = LacksClauses cnf
IsMinimalRun cnf (Err (Proof fault)) = OfCore cnf (λ formula. Unit {0})
IsMinimalRun cnf (Err (Models fault)) = OfCore cnf (λ formula. Unit {0})

-- a verdict, or a fault of the proof or of the models
abbrev pub IsEarlyCore : Result MinimalVerdict CoreFault → Type 0
IsEarlyCore (Ok verdict) = Unit {0}
IsEarlyCore (Err (Formula fault)) = ⊥
IsEarlyCore (Err FewClauses) = ⊥
IsEarlyCore (Err (Proof fault)) = Unit {0}
IsEarlyCore (Err (Models fault)) = Unit {0}
