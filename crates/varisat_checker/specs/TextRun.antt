-- The clauses of a DIMACS text, added one after the other.
--     EndsText known clauses r      these clauses of the text were given when the call answered r
--     TextAnswer known s clauses r s'      the answer for adding these clauses of the text to s, and what follows for the satisfying set
--     TextRun known s r s' .. old new      some clauses were added so, and of the same clauses, what was delivered on
use Rattle.std.specs.Prelude.{ℕ, List, ◌++◌, map, Option, Result, Ok, Err}
use Rattle.std.specs.Option.{option_map}
use Rattle.sat_rules.specs.Named.{Machine}
use Rattle.checker_rules.specs.AddFormula.{add_clauses, added}
use Rattle.checker_rules.specs.CallEmissions.{EmitsCalls}
use Rattle.checker_rules.specs.Calls.{adds}
use Rattle.checker_rules.specs.CheckedSteps.{NamedStep, hint_steps}
use Rattle.checker_rules.specs.HintRun.{IsRun, machine_after}
use Rattle.checker_rules.specs.Machine.{Mirrors}
use Rattle.checker_rules.specs.State.{State}
use Rattle.checker_rules.specs.Step.{Step, add_clause}
use Rattle.sat_formula.specs.Outcome as dimacs
use Rattle.sat_formula.specs.Lines as lines
use Rattle.sat_formula.specs.Whole.{BeginsWith, IsOutcome}
use Rattle.checker_parts.specs.Answers.{AnswersText, IsCovered, IsFold, UnlessTextFailed}
use Rattle.checker_parts.specs.Endings.{text_ending}
use Rattle.checker_parts.specs.declared.error.DimacsError.{DimacsError}
use Rattle.checker_parts.specs.declared.error.DimacsError.TheVariants.{Read, Malformed, Checker}
use Rattle.checker_steps.specs.Delivered.{Listeners, Listens, ListensImage, DeliveredEnd}

-- what a text of these bytes holds, where they are known
abbrev pub outcome_of : Option (List ℕ) → Option dimacs.Outcome
outcome_of known = option_map lines.outcome_of known

-- all the clauses of the text, those before its fault, or those before a failed read, a failed allocation or a rejected clause, and it
abbrev pub EndsText : {A : Type 0} → Option dimacs.Outcome → List (List ℕ) → Result A DimacsError →
    Type 0
EndsText known clauses (Ok done) = IsOutcome known (clauses, dimacs.Ended)
EndsText known clauses (Err (Read cause)) = BeginsWith known clauses
EndsText known clauses (Err (Malformed line kind)) =
    IsOutcome known (clauses, dimacs.Faulty line kind)
EndsText known clauses (Err (Checker e)) = BeginsWith known clauses

-- the answer and the state left are those of adding these clauses, which a text with these bytes gave; for every list of steps that led to the set before,
-- the set left is the fold over that list and the accepted clauses
pub record TextAnswer {A : Type 0} (known : Option (List ℕ)) (s : State) (clauses : List (List ℕ))
    (r : Result A DimacsError) (s' : State) : Type 0 where
  pub text : EndsText (outcome_of known) clauses r
  pub answer : AnswersText r (add_clauses s clauses) s'
  pub folds : (before : List Step) → IsFold before s →
      UnlessTextFailed r (IsFold (before ++ map add_clause (added s clauses)) s')
  pub covers : (before : List Step) → IsCovered before s →
      UnlessTextFailed r (IsCovered (before ++ map add_clause (added s clauses)) s')

-- the clauses of the text that were given, with the answer for adding them; what the listeners took of them; and that it is a run of the hint machine
pub record TextRun {A P T : Type 0} (known : Option (List ℕ)) (s : State) (r : Result A DimacsError)
    (s' : State) (listens : Listens P) (listens_image : ListensImage T) (old new : Listeners P T) :
    Type 0 where
  pub clauses : List (List ℕ)
  pub answered : TextAnswer known s clauses r s'
  pub delivered : DeliveredEnd (text_ending r) (EmitsCalls s (map adds (added s clauses))) listens
      listens_image old new
  pub certified : (m : Machine) (es : List NamedStep) → Mirrors m s →
      EmitsCalls s (map adds (added s clauses)) es →
      IsRun m (hint_steps es) × UnlessTextFailed r (Mirrors (machine_after m (hint_steps es)) s')
