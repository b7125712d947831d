-- Steps counted and not, and `End`.
use Rattle.std.proofs.Common.{◌≡◌, ℕ, ◌<◌, ◌≤◌, ◌-◌, ◌^◌, true, false, ltb, lt-ltb, le-ltb, Ok, Err, refl, arith}
use Rattle.checker_steps.proofs.Common.{attempt, steps_exhausted, State, Step, end_proof, step, step-end_proof, AnswersOutcome}
use Rattle.checker_steps.proofs.Common.{Refused, answers-refuse}
use Rattle.checker_rules.specs.Calls.{step_limit}
use Rattle.checker_rules.proofs.Openings.{attempt-exhausted}
use Rattle.checker_parts.specs.declared.error.CheckCause.TheVariants.{StepsExhausted}
use Rattle.checker_steps.proofs.EmissionLemmas.{answers-accept}

-- `End`
pub end-answers : (s : State) (t : Step) → t ≡ end_proof → AnswersOutcome {A = Unit {0}} (Ok tt) (step s t) (record s { ended = true })
end-answers s t e = rw e (answers-accept (step-end_proof s) refl)

-- a step number at its end
pub no-number : (n : ℕ) → n ≡ 2 ^ 64 - 1 → ltb n step_limit ≡ false
unfolding step_limit
no-number n e = le-ltb n (2 ^ 64 - 1) (omega arith)

pub some-number : (n : ℕ) → n < 2 ^ 64 → (n ≡ 2 ^ 64 - 1 → ⊥) → ltb n step_limit ≡ true
unfolding step_limit
some-number n fits e = lt-ltb n (2 ^ 64 - 1) (omega (arith, fits, e))

pub not-exhausted : (n : ℕ) → n < 2 ^ 64 → (n ≡ 2 ^ 64 - 1 → ⊥) → step_limit ≤ n → ⊥
unfolding step_limit
not-exhausted n fits some none = some (omega (arith, fits, none))

pub attempt-refused : (s : State) (t : Step) → ltb s.steps step_limit ≡ false → AnswersOutcome {A = Unit {0}} (Err (Refused StepsExhausted)) (attempt s t) s
attempt-refused s t none = answers-refuse steps_exhausted (attempt s t) s s (attempt-exhausted s t none) refl
