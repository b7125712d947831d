-- How a call ends, from how its run ends.
use Rattle.std.proofs.Common.{◌≡◌, ℕ, List, [], ◌∷◌, Option, Some, Result, Ok, Err, IfOk, IsErr, refl, inl, inr}
use Rattle.command.specs.Calls.{operands_of}
use Rattle.command.specs.Inputs.{bytes_named}
use Rattle.command.specs.declared.call.Call.{Call}
use Rattle.follows_check.specs.Verdicts.{ended_of, shown_line, status_of}
use Rattle.follows_check.specs.declared.verdict.Verdict.{Verdict}
use Rattle.follows_check_main.specs.Questions.{AsksQuestion, NamesQuestion}
use Rattle.verdicts.specs.Statuses.{Ends, ShowsLine}
use Rattle.verdicts.specs.declared.status.Refusal.{Refusal}

module _ (Holds : Verdict → Type 0) (Left : Type 0) (old new : Option (List ℕ)) where
  -- what was reached and holds was shown, or not
  pub ends_shown : {E : Type 0} (checked r : Result Verdict E) → ShowsLine shown_line checked old new r → IfOk checked Holds → (IsErr checked → Left)
      → Ends shown_line status_of Holds Left old new (ended_of r)
  ends_shown checked (Ok verdict) shown holds left = (verdict, refl, shown.1, rw shown.0 at holds)
  ends_shown checked (Err fault) (inl none) holds left = inl (none.1, left none.0)
  ends_shown checked (Err fault) (inr begun) holds left = inr (refl, (begun.0, begun.2, rw begun.1 at holds))

-- a formula for the solver that got its name is that of the files of the call
pub asks : (files : List ℕ → Option (List ℕ)) (input : Option (List ℕ)) (place : List ℕ → Option (List ℕ)) (unwritten : Option (List ℕ)) (call : Call) (file cnf claims : List ℕ)
    (old new : Option (List (List ℕ × List ℕ))) (result : Result ℕ Refusal) → operands_of call ≡ cnf ∷ claims ∷ [] → IfOk result (λ status. status ≡ 0)
    → ((text said : List ℕ) → bytes_named files input cnf ≡ Some text → bytes_named files input claims ≡ Some said → unwritten ≡ Some [] → result ≡ Ok 0
    → NamesQuestion (place file) (Some text) (Some said) old new)
    → IfOk result (λ status. (status ≡ 0) × AsksQuestion files input place unwritten call file old new)
asks files input place unwritten call file cnf claims old new (Ok status) operands zero named = (
  zero,
  record {
    cnf = cnf;
    claims = claims;
    operands = operands;
    named = λ text said is are empty. named text said is are empty (cc);
  },
)
asks files input place unwritten call file cnf claims old new (Err refusal) operands zero named = tt
