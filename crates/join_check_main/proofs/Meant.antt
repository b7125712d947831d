-- What verdicts that were reached mean for the files of a call.
use Rattle.std.proofs.Common.{◌≡◌, ℕ, List, Option, Some, Result, Ok, Err, IfOk, refl}
use Rattle.command.specs.Inputs.{bytes_named}
use Rattle.join_check.specs.Texts.{IsRefutedByParts, IsRefutedByReceipts}
use Rattle.join_check.specs.declared.verdict.Verdict.{Verdict}
use Rattle.join_check.specs.declared.verdict.Verdict.TheVariants.{NotVerified, Verified}
use Rattle.join_check_main.specs.Meaning.{MeansByParts, MeansByReceipts}

module _ (files : List ℕ → Option (List ℕ)) (input : Option (List ℕ)) (cnf receipts : List ℕ) where
  pub by_receipts : {E : Type 0} (r : Result Verdict E)
      → ((text said : List ℕ) (count : ℕ) → bytes_named files input cnf ≡ Some text → bytes_named files input receipts ≡ Some said → r ≡ Ok (Verified count) → IsRefutedByReceipts said text)
      → IfOk r (MeansByReceipts files input cnf receipts)
  by_receipts (Ok (Verified count)) shows = λ text said known other. shows text said count known other refl
  by_receipts (Ok (NotVerified unshown)) shows = tt
  by_receipts (Err fault) shows = tt

  pub by_parts : {E : Type 0} (cubes : List ℕ) (r : Result Verdict E)
      → ((text split said : List ℕ) (count : ℕ) → bytes_named files input cnf ≡ Some text → files cubes ≡ Some split → bytes_named files input receipts ≡ Some said → r ≡ Ok (Verified count)
      → IsRefutedByParts said split text)
      → IfOk r (MeansByParts files input cnf receipts cubes)
  by_parts cubes (Ok (Verified count)) shows = λ text split said known parted other. shows text split said count known parted other refl
  by_parts cubes (Ok (NotVerified unshown)) shows = tt
  by_parts cubes (Err fault) shows = tt
