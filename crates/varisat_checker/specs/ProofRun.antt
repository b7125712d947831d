-- The run over the text of a proof.
--     IsReadText end known text      the text that was run over
--     EndsProof end text s steps s'      the run from s over the text accepts these steps, and ends so in s'
--     EmitsProof end s text steps es      what it emits
--     ProofAnswer known s text steps r s'      the run over this text accepts these steps, and what follows for the satisfying set
--     ProofRun known s r s' .. old new      some run does so, and of the same steps, what was delivered on
--     PartsAnswer, PartsRun      the same over parts of which the form alone is known
use Rattle.std.specs.Prelude.{◌≡◌, ℕ, List, ◌++◌, Option, Some, None, Result}
use Rattle.std.proofs.Common.{inl, inr}
use Rattle.checker_rules.specs.CheckedSteps.{NamedStep}
use Rattle.checker_rules.specs.Headline.{EntailsRedundant}
use Rattle.checker_rules.specs.Run.{Runs}
use Rattle.checker_rules.specs.RunEmissions.{EmitsRun}
use Rattle.checker_rules.specs.State.{State}
use Rattle.checker_rules.specs.Step.{Step}
use Rattle.proof_bytes.specs.TextRuns.{BeginsTextOf, IsTextOf}
use Rattle.proof_bytes.specs.Texts.{next_of, start_of}
use Rattle.checker_parts.specs.Answers.{IsCovered, IsFold, UnlessFailed}
use Rattle.checker_parts.specs.Endings.{Ending, accepted, refused, unread, given_up, had_failed, memory_refused, read_failed, ending, reading_fault}
use Rattle.checker_parts.specs.Models.{RunProves, RunRefutes}
use Rattle.checker_parts.specs.declared.error.CheckerError.{CheckerError}
use Rattle.varisat_checker.specs.Certified.{Certifies}
use Rattle.checker_steps.specs.Delivered.{Listeners, Listens, ListensImage, Delivered}

-- the text of the reader; where a read failed or memory was refused, what was read of it
abbrev pub IsReadText : Ending → Option (List ℕ) → List ℕ → Type 0
IsReadText (unread read_failed number) known text = BeginsTextOf known text
IsReadText (given_up memory_refused) known text = BeginsTextOf known text
IsReadText had_failed known text = ⊥
IsReadText _ known text = IsTextOf known text

-- the run accepts these steps and ends so: by `End`, a rejection, the end of the text, its first fault, or a read's fault in place of the end
abbrev pub EndsProof : Ending → List ℕ → State → List Step → State → Type 0
EndsProof accepted text s steps s' = Runs next_of s (start_of text) steps None s'
EndsProof (refused cause number) text s steps s' =
    (number ≡ s'.steps) × Runs next_of s (start_of text) steps (Some (inl cause)) s'
EndsProof (unread why number) text s steps s' =
    (number ≡ s'.steps) × Runs next_of s (start_of text) steps (Some (inr (reading_fault why))) s'
EndsProof (given_up loss) text s steps s' = Unit {0}
EndsProof had_failed text s steps s' = ⊥

-- what the accepted steps emit, and then the step that was rejected or met a fault, or the closing conflict
abbrev pub EmitsProof : Ending → State → List ℕ → List Step → List NamedStep → Type 0
EmitsProof had_failed s text steps es = ⊥
EmitsProof _ s text steps es = EmitsRun next_of s (start_of text) steps es

-- the answer and the state left are those of the run over this text, of a reader with these bytes, which accepts these steps; for every list of steps that
-- led to the set before, the set left is the fold over that list and the accepted steps, and each accepted model and core proves what it says of its members
pub record ProofAnswer {A : Type 0} (known : Option (List ℕ)) (s : State) (text : List ℕ)
    (steps : List Step) (r : Result A CheckerError) (s' : State) : Type 0 where
  pub is_text : IsReadText (ending r) known text
  pub ends : EndsProof (ending r) text s steps s'
  pub folds : (before : List Step) → IsFold before s → UnlessFailed r (IsFold (before ++ steps) s')
  pub covers : (before : List Step) → IsCovered before s →
      UnlessFailed r (IsCovered (before ++ steps) s')
  pub proves : (before : List Step) → IsFold before s → RunProves before s steps
  pub refutes : (before : List Step) → IsCovered before s → RunRefutes before steps

-- the run over the text of a reader with these bytes; what the listeners took of what it emits; and that this is a run of the hint machine
pub record ProofRun {A P T : Type 0} (known : Option (List ℕ)) (s : State)
    (r : Result A CheckerError) (s' : State) (listens : Listens P) (listens_image : ListensImage T)
    (old new : Listeners P T) : Type 0 where
  pub text : List ℕ
  pub steps : List Step
  pub answered : ProofAnswer known s text steps r s'
  pub delivered : Delivered r (EmitsProof (ending r) s text steps) listens listens_image old new
  pub certified : Certifies r (EmitsProof (ending r) s text steps) s s'

-- what a run over a text answers of parts whose redundant clauses need not be entailed: what relies on that has it as its premise, which holds again after the run
pub record PartsAnswer {A : Type 0} (known : Option (List ℕ)) (s : State) (text : List ℕ)
    (steps : List Step) (r : Result A CheckerError) (s' : State) : Type 0 where
  pub is_text : IsReadText (ending r) known text
  pub ends : EndsProof (ending r) text s steps s'
  pub covers : (before : List Step) → IsCovered before s →
      UnlessFailed r (IsCovered (before ++ steps) s')
  pub entails : EntailsRedundant s → UnlessFailed r (EntailsRedundant s')
  pub folds : EntailsRedundant s → (before : List Step) → IsFold before s →
      UnlessFailed r (IsFold (before ++ steps) s')
  pub proves : EntailsRedundant s → (before : List Step) → IsFold before s →
      RunProves before s steps
  pub refutes : EntailsRedundant s → (before : List Step) → IsCovered before s →
      RunRefutes before steps

-- the run over the text of a reader with these bytes, from such parts; what the listeners took of what it emits; and that this is a run of the hint machine
pub record PartsRun {A P T : Type 0} (known : Option (List ℕ)) (s : State)
    (r : Result A CheckerError) (s' : State) (listens : Listens P) (listens_image : ListensImage T)
    (old new : Listeners P T) : Type 0 where
  pub text : List ℕ
  pub steps : List Step
  pub answered : PartsAnswer known s text steps r s'
  pub delivered : Delivered r (EmitsProof (ending r) s text steps) listens listens_image old new
  pub certified : Certifies r (EmitsProof (ending r) s text steps) s s'
