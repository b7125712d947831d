-- What a verdict means, by what its run has shown and by the receipt that has its name.
use Rattle.std.proofs.Common.{◌≡◌, ◌≢◌, ℕ, List, [], ◌∷◌, Option, Result, Ok, Err, refl}
use Rattle.std.specs.Prelude.{IfOk, IsOk}
use Rattle.command.specs.declared.call.Call.{Call}
use Rattle.model_check.specs.Verdicts.{shows_sat}
use Rattle.model_check.specs.declared.verdict.Verdict.{Verdict}
use Rattle.model_check.specs.declared.verdict.Verdict.TheVariants.{Verified, NotVerified}
use Rattle.model_check_main.specs.Meaning.{Means}
use Rattle.receipts.specs.declared.receipt.Receipt.{Receipt}
use Rattle.verdicts.specs.Statuses.{status_of}

module _ (files : List ℕ → Option (List ℕ)) (input : Option (List ℕ)) (call : Call) (Whole Kept : Receipt → Type 0) (Unnamed : Type 0) {E : Type 0} where
  -- of the verdict that was reached, once its receipt has its name
  pub means_named : (checked named : Result Verdict E) → IfOk named (λ verdict. checked ≡ Ok verdict)
      → (IsOk named → (receipt : Receipt) → Whole receipt → Kept receipt)
      → (IsOk named → status_of shows_sat checked ≢ 0 → Unnamed)
      → (checked ≡ Ok Verified → Means files input call Whole Unnamed Verified)
      → IfOk named (Means files input call Kept Unnamed)
  means_named checked (Ok Verified) same keep none verified = λ cnf answer text operands alone known.
      let shown = verified same cnf answer text operands alone known in (shown.0, keep refl _ shown.1)
  means_named checked (Ok (NotVerified clause line)) same keep none verified = none refl (λ zero. let other : ◌≡◌ {A = ℕ} 3 0 = rw same at zero in absurd (cc))
  means_named checked (Err fault) same keep none verified = tt

-- ---- the operands of a call

module _ (operands : List (List ℕ)) (cnf other cnf' other' : List ℕ) (e : operands ≡ cnf ∷ other ∷ []) (e' : operands ≡ cnf' ∷ other' ∷ []) where
  pub first_name : cnf ≡ cnf'
  first_name = cc

  pub second_name : other ≡ other'
  second_name = cc
