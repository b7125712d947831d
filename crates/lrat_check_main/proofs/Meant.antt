-- What a verdict means, by what its run has shown and by the receipt that has its name.
use Rattle.std.proofs.Common.{◌≡◌, ◌≢◌, ℕ, List, [], ◌∷◌, Option, Some, None, Result, Ok, Err, refl}
use Rattle.std.specs.Prelude.{IfOk, IsOk}
use Rattle.command.specs.declared.call.Call.{Call}
use Rattle.lrat_check.specs.declared.fault.RunFault.{RunFault}
use Rattle.lrat_check.specs.declared.piece_fault.PieceFault.{PieceFault}
use Rattle.lrat_check_main.specs.Meaning.{Means, piece_of}
use Rattle.receipts.specs.declared.receipt.Receipt.{Receipt}
use Rattle.verdicts.specs.Pieces.{shows_wanted}
use Rattle.verdicts.specs.Statuses.{status_of}
use Rattle.verdicts.specs.declared.piece.PieceVerdict.{PieceVerdict}
use Rattle.verdicts.specs.declared.piece.PieceVerdict.TheVariants.{Refuted, Carried, NotCarried}
use Rattle.verdicts.specs.declared.shown.Unshown.{Unshown}
use Rattle.verdicts.specs.declared.verdict.Verdict.{Verdict}
use Rattle.verdicts.specs.declared.verdict.Verdict.TheVariants.{Verified, NotVerified}

module _ (files : List ℕ → Option (List ℕ)) (input : Option (List ℕ)) (call : Call) (Whole Kept : Receipt → Type 0) (Unnamed : Type 0)
    (keep : (receipt : Receipt) → Whole receipt → Kept receipt) where
  -- a receipt that is whole gets its name
  kept : (holds : Option (List ℕ)) (verdict : PieceVerdict) → Means files input call holds Whole Unnamed verdict → Means files input call holds Kept Unnamed verdict
  kept holds Refuted means = λ cnf proof text operands alone known.
      let shown = means cnf proof text operands alone known in (shown.0, keep _ shown.1)
  kept (Some name) Carried means = λ cnf proof text wanted operands alone known other.
      let shown = means cnf proof text wanted operands alone known other in (shown.0, keep _ shown.1)
  kept None Carried means = absurd means
  kept holds NotCarried means = means

module _ (files : List ℕ → Option (List ℕ)) (input : Option (List ℕ)) (call : Call) (Whole Kept : Receipt → Type 0) (Unnamed : Type 0) {E : Type 0} where
  -- of the verdict that was reached, once its receipt has its name
  pub means_named : (holds : Option (List ℕ)) (checked named : Result PieceVerdict E) → IfOk named (λ verdict. checked ≡ Ok verdict)
      → (IsOk named → (receipt : Receipt) → Whole receipt → Kept receipt)
      → (IsOk named → status_of shows_wanted checked ≢ 0 → Unnamed)
      → (checked ≡ Ok Refuted → Means files input call holds Whole Unnamed Refuted)
      → (checked ≡ Ok Carried → Means files input call holds Whole Unnamed Carried)
      → IfOk named (Means files input call holds Kept Unnamed)
  means_named holds checked (Ok Refuted) same keep none refuted carried = kept files input call Whole Kept Unnamed (keep refl) holds Refuted (refuted same)
  means_named holds checked (Ok Carried) same keep none refuted carried = kept files input call Whole Kept Unnamed (keep refl) holds Carried (carried same)
  means_named holds checked (Ok NotCarried) same keep none refuted carried = none refl (λ zero. let other : ◌≡◌ {A = ℕ} 3 0 = rw same at zero in absurd (cc))
  means_named holds checked (Err fault) same keep none refuted carried = tt

-- ---- a whole proof

pub piece_refuted : (r : Result Verdict RunFault) → piece_of r ≡ Ok Refuted → r ≡ Ok Verified
piece_refuted (Ok Verified) is = refl
piece_refuted (Ok NotVerified) is = absurd (cc)
piece_refuted (Err fault) is = absurd (cc)

pub no_piece : (r : Result Verdict RunFault) → IfOk (piece_of r) (λ verdict. verdict ≢ Carried)
no_piece (Ok Verified) = λ is. cc
no_piece (Ok NotVerified) = λ is. cc
no_piece (Err fault) = tt

pub not_carried : (r : Result PieceVerdict (Unshown PieceFault)) → IfOk r (λ verdict. verdict ≢ Carried) → r ≡ Ok Carried → ⊥
not_carried r none is = let other : Carried ≢ Carried = rw is at none in other refl

-- ---- the operands of a call

pub first_name : (operands : List (List ℕ)) (cnf other cnf' other' : List ℕ) → operands ≡ cnf ∷ other ∷ [] → operands ≡ cnf' ∷ other' ∷ [] → cnf ≡ cnf'
first_name operands cnf other cnf' other' e e' = cc
