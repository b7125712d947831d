-- Where a session stands after a call.
use Rattle.std.proofs.Common.{◌≡◌, ℕ, Bool, List, ◌++◌, Option, None, Some, refl, ap, ◌∙◌}
use Rattle.refutation_rules.specs.Sessions.{Satisfies}
use Rattle.session_text.specs.declared.line.Status.TheVariants.{Satisfiable}
use Rattle.session_check.specs.Interactions.{Asked, IsAnswer}
use Rattle.session_check.specs.Progress.{Pending, Progress}
use Rattle.session_check.specs.declared.report.Reason.{Reason}

-- by its parts
abbrev pub progress : List (List ℕ) → (ℕ → Option (List ℕ)) → Bool → Pending → ℕ → Progress
progress given named broken pending more = record { given = given; named = named; broken = broken; pending = pending; more = more }

pub same_progress : (pending : Pending) {g h : List (List ℕ)} {f k : ℕ → Option (List ℕ)} {b d : Bool} {m n : ℕ} → g ≡ h → f ≡ k → b ≡ d → m ≡ n → progress g f b pending m ≡ progress h k d pending n
same_progress pending {g} {h} {f} {k} {b} {d} {m} {n} given named broken more =
    ap (λ (x : List (List ℕ)). progress x f b pending m) given ∙ ap (λ (x : ℕ → Option (List ℕ)). progress h x b pending m) named ∙ ap (λ (x : Bool). progress h k x pending m) broken
    ∙ ap (λ (x : ℕ). progress h k d pending x) more

-- the answer, by some values
pub answer_by : (q : Asked) (values : List ℕ) (reason : Option Reason) → (reason ≡ None → Satisfies q.given q.assumed (q.told ++ values)) → IsAnswer q Satisfiable reason
answer_by q values None h = (values, h refl)
answer_by q values (Some reason) h = tt
