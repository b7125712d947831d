-- What a call shows, and what that means for its files.
--     Shown, shown_text, shown_status      what is shown, its text, and its exit status
--     NeverMeans, SameMeans, SafeMeans, ReachMeans      a claim that is proved, and a run of a machine
--     PossibleMeans, DifferentMeans      what an answer shows, and its text
--     Proves, Answers, Runs      a call shows this, and it means that
--     MeansNever, MeansSame, MeansSafe      of one circuit, two circuits, and a machine and an invariant, by the options of a call
--     Means      of the operands of a call
--     StopsSafe, Leaves      which names a call gave that is refused
use Rattle.std.specs.Prelude.{◌≡◌, ◌⊎◌, ℕ, false, true, List, [], ◌∷◌, Option, Some, None, codes}
use Rattle.circuit_answers.specs.Answers.{IsDifferentJudged, IsPossibleJudged}
use Rattle.circuit_answers.specs.Reached.{is_reached, reach_line}
use Rattle.circuit_answers.specs.declared.reach.Reach.{Reach}
use Rattle.circuit_answers.specs.declared.reach.Reach.TheVariants as reaches
use Rattle.circuit_check.specs.Answered.{OfDifferent, OfPossible}
use Rattle.circuit_check.specs.Claims.{AreDifferentText, IsNeverFormula, IsNeverText, IsPossibleText, IsReachedText, IsSafeText, IsSameFormula, IsSameText}
use Rattle.circuit_check.specs.Verdicts.{claim_line}
use Rattle.circuit_check.specs.declared.line.Claim.{Claim}
use Rattle.circuit_check.specs.declared.line.Claim.TheVariants.{Never, Same, Safe}
use Rattle.circuit_check_main.specs.Asked.{HasFiles, HasFormulas, HasProofs, pairing_of}
use Rattle.circuit_names.specs.declared.pairing.Pairing.{Pairing}
use Rattle.circuit_check_main.specs.Shown.{NamesFormula, NamesFormulas, StopsFormulas}
use Rattle.command.specs.Calls.{Choice, choices_of, is_given, operands_of}
use Rattle.command.specs.declared.call.Call.{Call}
use Rattle.verdicts.specs.Statuses.{status_shown}
use Rattle.verdicts.specs.declared.status.Refusal.{Refusal}
use Rattle.verdicts.specs.declared.status.Refusal.TheVariants.{Failed}
use Rattle.verdicts.specs.Verdicts.{shows_unsat}
use Rattle.verdicts.specs.declared.verdict.Verdict.{Verdict}
use Rattle.verdicts.specs.declared.verdict.Verdict.TheVariants.{NotVerified, Verified}

-- the verdict on a claim, by its proof; that on an answer, and its text; the run of a machine by a stimulus; or that the formulas are written
pub data Shown : Type 0 where
  proved : (claim : Claim) (verdict : Verdict) → Shown
  answered : (verdict : Verdict) (text : List ℕ) → Shown
  ran : (reach : Reach) → Shown
  wrote : Shown

-- nothing is said of formulas
abbrev pub shown_text : Shown → List ℕ
shown_text (proved claim verdict) = claim_line claim verdict
shown_text (answered verdict text) = text
shown_text (ran reach) = reach_line reach
shown_text wrote = []

abbrev pub shown_status : Shown → ℕ
shown_status (proved claim verdict) = status_shown shows_unsat verdict
shown_status (answered verdict text) = status_shown shows_unsat verdict
shown_status (ran reach) = status_shown is_reached reach
shown_status wrote = 0

-- ---- what a verdict means, for the bytes of files that are known

abbrev pub NeverMeans : Option (List ℕ) → Verdict → Type 0
NeverMeans circuit Verified = (text : List ℕ) → circuit ≡ Some text → IsNeverText text
NeverMeans circuit NotVerified = Unit {0}

abbrev pub SameMeans : Pairing → Option (List ℕ) → Option (List ℕ) → Verdict → Type 0
SameMeans pairing circuit other Verified = (text other_text : List ℕ) → circuit ≡ Some text → other ≡ Some other_text
    → IsSameText pairing text other_text
SameMeans pairing circuit other NotVerified = Unit {0}

abbrev pub SafeMeans : Option (List ℕ) → Verdict → Type 0
SafeMeans machine Verified = (text : List ℕ) → machine ≡ Some text → IsSafeText text
SafeMeans machine NotVerified = Unit {0}

abbrev pub ReachMeans : Option (List ℕ) → Reach → Type 0
ReachMeans machine (reaches.At step) = (text : List ℕ) → machine ≡ Some text → IsReachedText text
ReachMeans machine (reaches.OtherStart latch) = Unit {0}
ReachMeans machine (reaches.Broken step) = Unit {0}
ReachMeans machine reaches.Nowhere = Unit {0}

-- the text says what the circuit does for the input of the answer
pub record PossibleMeans (circuit answer : Option (List ℕ)) (verdict : Verdict) (text : List ℕ) : Type 0 where
  pub judged : OfPossible circuit answer (λ c lits. IsPossibleJudged lits c verdict text)
  pub possible : (said : List ℕ) → circuit ≡ Some said → verdict ≡ Verified → IsPossibleText said

pub record DifferentMeans (pairing : Pairing) (circuit other answer : Option (List ℕ)) (verdict : Verdict) (text : List ℕ) : Type 0 where
  pub judged : (said other_said : List ℕ) → circuit ≡ Some said → other ≡ Some other_said
      → OfDifferent pairing said other_said answer (λ c d lits. IsDifferentJudged lits c d verdict text)
  pub different : (said other_said : List ℕ) → circuit ≡ Some said → other ≡ Some other_said → verdict ≡ Verified
      → AreDifferentText pairing said other_said

-- ---- what a call shows

abbrev pub Proves : Claim → (Verdict → Type 0) → Shown → Type 0
Proves claim P shown = (verdict : Verdict) × (shown ≡ proved claim verdict) × P verdict

abbrev pub Answers : (Verdict → List ℕ → Type 0) → Shown → Type 0
Answers P shown = (verdict : Verdict) × (text : List ℕ) × (shown ≡ answered verdict text) × P verdict text

abbrev pub Runs : (Reach → Type 0) → Shown → Type 0
Runs P shown = (reach : Reach) × (shown ≡ ran reach) × P reach

abbrev pub Writes : Type 0 → Shown → Type 0
Writes Names shown = (shown ≡ wrote) × Names

-- ---- by the options and operands of a call

-- by a proof, by an answer, or as a formula: one of the options is given
pub data MeansNever (files : List ℕ → Option (List ℕ)) (unwritten : Option (List ℕ)) (place : List ℕ → Option (List ℕ))
    (old new : Option (List (List ℕ × List ℕ))) (options : List Choice) (circuit : List ℕ) (shown : Shown) : Type 0 where
  never_proof : (proof : List ℕ) → HasFiles options (Some proof) None None
      → Proves Never (NeverMeans (files circuit)) shown
      → MeansNever files unwritten place old new options circuit shown
  never_answer : (answer : List ℕ) → HasFiles options None (Some answer) None
      → Answers (PossibleMeans (files circuit) (files answer)) shown
      → MeansNever files unwritten place old new options circuit shown
  never_formula : (file : List ℕ) → HasFiles options None None (Some file)
      → Writes ((text : List ℕ) → files circuit ≡ Some text → unwritten ≡ Some []
      → NamesFormula (IsNeverFormula (Some text)) (place file) old new) shown
      → MeansNever files unwritten place old new options circuit shown

pub data MeansSame (files : List ℕ → Option (List ℕ)) (unwritten : Option (List ℕ)) (place : List ℕ → Option (List ℕ))
    (old new : Option (List (List ℕ × List ℕ))) (options : List Choice) (circuit other : List ℕ) (shown : Shown) : Type 0 where
  same_proof : (proof : List ℕ) → HasFiles options (Some proof) None None
      → Proves Same (SameMeans (pairing_of options) (files circuit) (files other)) shown
      → MeansSame files unwritten place old new options circuit other shown
  same_answer : (answer : List ℕ) → HasFiles options None (Some answer) None
      → Answers (DifferentMeans (pairing_of options) (files circuit) (files other) (files answer)) shown
      → MeansSame files unwritten place old new options circuit other shown
  same_formula : (file : List ℕ) → HasFiles options None None (Some file)
      → Writes ((text other_text : List ℕ) → files circuit ≡ Some text → files other ≡ Some other_text → unwritten ≡ Some []
      → NamesFormula (IsSameFormula (pairing_of options) text other_text) (place file) old new) shown
      → MeansSame files unwritten place old new options circuit other shown

-- by three proofs, or as three formulas
pub data MeansSafe (files : List ℕ → Option (List ℕ)) (unwritten : Option (List ℕ)) (place : List ℕ → Option (List ℕ))
    (old new : Option (List (List ℕ × List ℕ))) (options : List Choice) (machine invariant : List ℕ) (shown : Shown) : Type 0 where
  safe_proofs : (initial step bad : List ℕ) → HasProofs options (Some initial) (Some step) (Some bad)
      → HasFormulas options None None None
      → Proves Safe (SafeMeans (files machine)) shown
      → MeansSafe files unwritten place old new options machine invariant shown
  safe_formulas : (initial step bad : List ℕ) → HasProofs options None None None
      → HasFormulas options (Some initial) (Some step) (Some bad)
      → Writes ((text other_text : List ℕ) → files machine ≡ Some text → files invariant ≡ Some other_text → unwritten ≡ Some []
      → NamesFormulas (Some text) (Some other_text) (place initial) (place step) (place bad) old new) shown
      → MeansSafe files unwritten place old new options machine invariant shown

-- of the files that the operands name, or of the example
pub data Means (files : List ℕ → Option (List ℕ)) (unwritten : Option (List ℕ)) (place : List ℕ → Option (List ℕ))
    (old new : Option (List (List ℕ × List ℕ))) (call : Call) (shown : Shown) : Type 0 where
  of_never : (circuit : List ℕ) → operands_of call ≡ codes "never" ∷ circuit ∷ []
      → is_given (choices_of call) (codes "--example") ≡ false
      → MeansNever files unwritten place old new (choices_of call) circuit shown
      → Means files unwritten place old new call shown
  of_same : (circuit other : List ℕ) → operands_of call ≡ codes "same" ∷ circuit ∷ other ∷ []
      → is_given (choices_of call) (codes "--example") ≡ false
      → MeansSame files unwritten place old new (choices_of call) circuit other shown
      → Means files unwritten place old new call shown
  of_safe : (machine invariant : List ℕ) → operands_of call ≡ codes "safe" ∷ machine ∷ invariant ∷ []
      → is_given (choices_of call) (codes "--example") ≡ false
      → MeansSafe files unwritten place old new (choices_of call) machine invariant shown
      → Means files unwritten place old new call shown
  of_stimulus : (machine : List ℕ) → operands_of call ≡ codes "safe" ∷ machine ∷ []
      → is_given (choices_of call) (codes "--example") ≡ false
      → Runs (ReachMeans (files machine)) shown
      → Means files unwritten place old new call shown
  of_example : is_given (choices_of call) (codes "--example") ≡ true
      → Proves Never (λ verdict. Unit {0}) shown
      → Means files unwritten place old new call shown

-- ---- a call that is refused

module _ (files : List ℕ → Option (List ℕ)) (unwritten : Option (List ℕ)) (place : List ℕ → Option (List ℕ))
    (old new : Option (List (List ℕ × List ℕ))) where
  -- three formulas were to be written, and some of their files have their names
  abbrev pub StopsSafe : List Choice → List ℕ → List ℕ → Type 0
  StopsSafe options machine invariant = (initial step bad : List ℕ) × HasFormulas options (Some initial) (Some step) (Some bad)
      × ((text other_text : List ℕ) → files machine ≡ Some text → files invariant ≡ Some other_text → unwritten ≡ Some []
      → StopsFormulas (Some text) (Some other_text) (place initial) (place step) old new)

  -- no name was given; or it was to write three formulas, and failed once some had their names
  abbrev pub Leaves : Call → Refusal → Type 0
  Leaves call refusal = (new ≡ old) ⊎ ((refusal ≡ Failed) × ((machine invariant : List ℕ)
      × (operands_of call ≡ codes "safe" ∷ machine ∷ invariant ∷ []) × StopsSafe (choices_of call) machine invariant))
