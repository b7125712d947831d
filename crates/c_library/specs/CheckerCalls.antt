-- Calls of a checker: what each leaves of it, by its outcome.
--     IsAnswer a r, IsUnknownKind a      the numbers of the outcome;  those of a step of no kind
--     IsBegun, IsAdd, IsChecked      the checker before and after, what was passed, and the outcome
use Rattle.std.specs.Prelude.{◌≡◌, ℤ, [], List, Some, Result, OnOk}
use Rattle.checker_rules.specs.Calls.{attempt}
use Rattle.checker_rules.specs.State.{State}
use Rattle.checker_rules.specs.Step.{Step, add_clause}
use Rattle.checker_rules.specs.Steps.{step}
use Rattle.checker_parts.specs.Answers.{IsCovered, IsFold}
use Rattle.handles.specs.Numbers.{are_lits, lits_of}
use Rattle.handles.specs.CheckerAnswers.{cause_of, rejected_step, status_of}
use Rattle.handles.specs.CheckerCalls.{IsBegin, IsCall, UnlessFailed, with_step}
use Rattle.handles.specs.CheckerHeld.{state_of}
use Rattle.handles.specs.CheckerStates.{HasState}
use Rattle.handles.specs.declared.checker_answer.CheckerAnswer.{CheckerAnswer}
use Rattle.handles.specs.declared.checker_fault.CallFault.{CallFault}
use Rattle.handles.specs.declared.checker.CheckerHandle.{CheckerHandle}

-- accepted, or the fault that ended the call
abbrev pub Outcome : Type 0
Outcome = Result (Unit {0}) CallFault

-- the numbers of the outcome
abbrev pub IsAnswer : CheckerAnswer → Outcome → Type 0
IsAnswer a r = (a.status ≡ status_of r) × (a.cause ≡ cause_of r) × (a.step ≡ rejected_step r)

-- a number is that of no kind of step
abbrev pub IsUnknownKind : CheckerAnswer → Type 0
IsUnknownKind a = (a.status ≡ 2) × (a.cause ≡ 33) × (a.step ≡ 0)

-- a new checker's state is that of no steps
abbrev pub IsBegun : CheckerHandle → CheckerHandle → Outcome → Type 0
IsBegun old new r = IsBegin (state_of old) r (state_of new)
    × OnOk r (HasState (state_of new) (λ s. IsFold [] s))
    × OnOk r (HasState (state_of new) (λ s. IsCovered [] s))

-- what held of the steps before holds after the call of the accepted ones, unless the checker has failed
abbrev pub Continues : (List Step → State → Type 0) → CheckerHandle → CheckerHandle → Step → Outcome → Type 0
Continues P old new t r = (s : State) (before : List Step) → state_of old ≡ Some s → P before s
    → UnlessFailed r (HasState (state_of new) (λ s'. P (with_step r before t) s'))

-- an input clause
abbrev pub IsAdd : CheckerHandle → CheckerHandle → List ℤ → Outcome → Type 0
IsAdd old new clause r =
    IsCall (state_of old) (are_lits clause) (λ s. step s (add_clause (lits_of clause))) r (state_of new)
    × Continues IsFold old new (add_clause (lits_of clause)) r
    × Continues IsCovered old new (add_clause (lits_of clause)) r

-- a step over these numbers
abbrev pub IsChecked : CheckerHandle → CheckerHandle → Step → List ℤ → Outcome → Type 0
IsChecked old new t lits r =
    IsCall (state_of old) (are_lits lits) (λ s. attempt s t) r (state_of new)
    × Continues IsFold old new t r
    × Continues IsCovered old new t r
