-- What a verdict that was reached means for the files of a call.
use Rattle.std.proofs.Common.{◌≡◌, ℕ, List, Option, Some, Result, Ok, Err, IfOk, refl}
use Rattle.command.specs.Inputs.{bytes_named}
use Rattle.follows_check.specs.Minimal.{IsMinimalText}
use Rattle.follows_check.specs.declared.minimal.MinimalVerdict.{MinimalVerdict}
use Rattle.follows_check.specs.declared.minimal.MinimalVerdict.TheVariants.{Minimal, NoModel, Open, Unmet}
use Rattle.minimal_check_main.specs.Meaning.{MeansOf}

module _ (files : List ℕ → Option (List ℕ)) (input : Option (List ℕ)) (core : List ℕ) where
  pub by_run : {E : Type 0} (r : Result MinimalVerdict E) → ((text : List ℕ) → bytes_named files input core ≡ Some text → r ≡ Ok Minimal → IsMinimalText text) → IfOk r (MeansOf files input core)
  by_run (Ok Minimal) shows = λ text known. shows text known refl
  by_run (Ok Open) shows = tt
  by_run (Ok (NoModel clause)) shows = tt
  by_run (Ok (Unmet model clause)) shows = tt
  by_run (Err fault) shows = tt
