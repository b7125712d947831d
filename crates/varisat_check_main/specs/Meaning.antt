-- What the verdict on a call's files means.
--     MeansOf cnf verdict      of the bytes of a formula
--     Means files input call verdict      of the formula that a call names first
--     AreHints text bytes, HasHints      the hints of a formula's text, and their file
--     NamesHints files input unwritten place operands old new      which file was named
use Rattle.std.specs.Prelude.{◌≡◌, ℕ, List, [], ◌∷◌, ◌++◌, length, take, Option, Some, Ok}
use Rattle.checker_rules.specs.CallEmissions.{empty_machine}
use Rattle.checker_rules.specs.CheckedSteps.{NamedStep, hint_steps}
use Rattle.checker_rules.specs.FormulaEmissions.{input_steps}
use Rattle.checker_rules.specs.HintRun.{IsRun}
use Rattle.checker_rules.specs.WrittenLines.{lines_of, new_writer}
use Rattle.command.specs.Calls.{operands_of}
use Rattle.command.specs.Inputs.{bytes_named}
use Rattle.command.specs.Outputs.{Gives}
use Rattle.command.specs.declared.call.Call.{Call}
use Rattle.sat_formula.specs.Refuted.{IsRefuted}
use Rattle.sat_hints.specs.WrittenText.{lines_text}
use Rattle.varisat_check.specs.ReadFormula.{ReadsFormula}
use Rattle.varisat_check.specs.declared.verdict.Verdict.{Verdict}
use Rattle.varisat_check.specs.declared.verdict.Verdict.TheVariants.{NotShown, Unsatisfiable, UnsatisfiableWithAdded}

-- a formula that is shown to be unsatisfiable is, if its bytes are known
abbrev pub MeansOf : Option (List ℕ) → Verdict → Type 0
MeansOf cnf Unsatisfiable = (text : List ℕ) → cnf ≡ Some text → IsRefuted text
MeansOf cnf (UnsatisfiableWithAdded count) = Unit {0}
MeansOf cnf NotShown = Unit {0}

abbrev pub Means : (List ℕ → Option (List ℕ)) → Option (List ℕ) → Call → Verdict → Type 0
Means files input call verdict = (cnf proof : List ℕ) (others : List (List ℕ))
    → operands_of call ≡ cnf ∷ proof ∷ others → MeansOf (bytes_named files input cnf) verdict

-- the lines of a run of the hint machine, which begins with clauses of the formula
pub record AreHints (text bytes : List ℕ) : Type 0 where
  pub formula : List (List ℕ)
  pub reads : ReadsFormula (Some text) (Ok formula)
  pub of_formula : List NamedStep
  pub clauses : ℕ
  pub inputs_first : hint_steps of_formula ≡ input_steps 0 (take clauses formula)
  pub of_proof : List NamedStep
  pub is_run : IsRun empty_machine (hint_steps (of_formula ++ of_proof))
  pub are : bytes ≡ lines_text (lines_of (new_writer (length formula)) (hint_steps (of_formula ++ of_proof)))

-- the file of the place has hints of the formula, if it was written from nothing
abbrev pub HasHints : (cnf unwritten place : Option (List ℕ)) (old new : Option (List (List ℕ × List ℕ))) → Type 0
HasHints cnf unwritten place old new = unwritten ≡ Some [] → (bytes : List ℕ)
    × ((text : List ℕ) → cnf ≡ Some text → AreHints text bytes) × Gives old new place (Some bytes)

-- such a file, where the call names one, and no other one
abbrev pub NamesHints : (List ℕ → Option (List ℕ)) → Option (List ℕ) → Option (List ℕ) → (List ℕ → Option (List ℕ)) → List (List ℕ)
    → Option (List (List ℕ × List ℕ)) → Option (List (List ℕ × List ℕ)) → Type 0
NamesHints files input unwritten place [] old new = new ≡ old
NamesHints files input unwritten place (cnf ∷ []) old new = new ≡ old
NamesHints files input unwritten place (cnf ∷ proof ∷ []) old new = new ≡ old
NamesHints files input unwritten place (cnf ∷ proof ∷ lrat ∷ others) old new =
    HasHints (bytes_named files input cnf) unwritten (place lrat) old new
