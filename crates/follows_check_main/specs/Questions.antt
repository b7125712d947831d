-- The formula for the solver, which a call with `--formula` writes.
--     NamesQuestion place cnf claims old new      it has its name
--     AsksQuestion files input place unwritten call file old new      the same of the files that the call names
--     EndsAsked call Asks old new result      how a call that writes it ends
use Rattle.std.specs.Prelude.{◌≡◌, ℕ, List, [], ◌∷◌, Option, Some, Result, Ok, codes}
use Rattle.command.specs.Calls.{choices_of, operands_of, value_given}
use Rattle.command.specs.Inputs.{bytes_named}
use Rattle.command.specs.Outputs.{Gives}
use Rattle.command.specs.declared.call.Call.{Call}
use Rattle.follows_check.specs.Texts.{WritesQuestion}
use Rattle.verdicts.specs.declared.status.Refusal.{Refusal}

-- a file of it was renamed to the place
pub record NamesQuestion (place : Option (List ℕ)) (cnf claims : Option (List ℕ))
    (old new : Option (List (List ℕ × List ℕ))) : Type 0 where
  pub bytes : Option (List ℕ)
  pub written : WritesQuestion cnf claims (Some []) bytes
  pub named : Gives old new place bytes

-- the call names a formula and claims, and this file got what is asked of them, if their bytes are known, and a new file is empty
pub record AsksQuestion (files : List ℕ → Option (List ℕ)) (input : Option (List ℕ))
    (place : List ℕ → Option (List ℕ)) (unwritten : Option (List ℕ)) (call : Call) (file : List ℕ)
    (old new : Option (List (List ℕ × List ℕ))) : Type 0 where
  pub cnf : List ℕ
  pub claims : List ℕ
  pub operands : operands_of call ≡ cnf ∷ claims ∷ []
  pub named : (text said : List ℕ) → bytes_named files input cnf ≡ Some text
      → bytes_named files input claims ≡ Some said → unwritten ≡ Some []
      → NamesQuestion (place file) (Some text) (Some said) old new

-- the file that `--formula` names is what was asked for; nothing was said, and the status is 0
pub record EndsAsked {W : Type 0} (call : Call) (Asks : List ℕ → Type 0) (old new : W)
    (result : Result ℕ Refusal) : Type 0 where
  pub file : List ℕ
  pub given : value_given (choices_of call) (codes "--formula") ≡ Some file
  pub asks : Asks file
  pub silent : new ≡ old
  pub zero : result ≡ Ok 0
