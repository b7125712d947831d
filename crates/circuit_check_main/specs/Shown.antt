-- The files of formulas that a run names.
--     NamesFormula IsFormula place old new      the file of such a formula has its name
--     GivesParts      three files got their names
--     NamesFormulas      the files of the three formulas of a machine and an invariant have their names
--     StopsParts, StopsFormulas      the same where one of the files got none
use Rattle.std.specs.Prelude.{◌≡◌, ◌⊎◌, ℕ, List, [], Option, Some}
use Rattle.command.specs.Outputs.{Gives}
use Rattle.circuit_check.specs.Claims.{HasWritten, HaveWritten}

-- a file that holds such a formula alone was renamed to the place
pub record NamesFormula (IsFormula : List (List ℕ) → Type 0) (place : Option (List ℕ))
    (old new : Option (List (List ℕ × List ℕ))) : Type 0 where
  pub bytes : Option (List ℕ)
  pub written : HasWritten IsFormula (Some []) bytes
  pub named : Gives old new place bytes

-- three files got the names of these places, in this order
pub record GivesParts (initial step bad initial_bytes step_bytes bad_bytes : Option (List ℕ))
    (old new : Option (List (List ℕ × List ℕ))) : Type 0 where
  pub with_initial : Option (List (List ℕ × List ℕ))
  pub with_step : Option (List (List ℕ × List ℕ))
  pub first : Gives old with_initial initial initial_bytes
  pub second : Gives with_initial with_step step step_bytes
  pub third : Gives with_step new bad bad_bytes

-- each of three files holds one of the formulas of a machine and an invariant alone, and was renamed to its place
pub record NamesFormulas (known known' initial step bad : Option (List ℕ))
    (old new : Option (List (List ℕ × List ℕ))) : Type 0 where
  pub initial_bytes : Option (List ℕ)
  pub step_bytes : Option (List ℕ)
  pub bad_bytes : Option (List ℕ)
  pub written : HaveWritten known known' (Some []) initial_bytes (Some []) step_bytes (Some []) bad_bytes
  pub named : GivesParts initial step bad initial_bytes step_bytes bad_bytes old new

-- the files before one that got no name got theirs, in this order
abbrev pub StopsParts : (initial step initial_bytes step_bytes : Option (List ℕ))
    (old new : Option (List (List ℕ × List ℕ))) → Type 0
StopsParts initial step initial_bytes step_bytes old new = (new ≡ old) ⊎ (Gives old new initial initial_bytes
    ⊎ ((with_initial : Option (List (List ℕ × List ℕ))) × Gives old with_initial initial initial_bytes
    × Gives with_initial new step step_bytes))

-- each of three files holds one of the formulas, and those before one that got no name were renamed to their places
pub record StopsFormulas (known known' initial step : Option (List ℕ))
    (old new : Option (List (List ℕ × List ℕ))) : Type 0 where
  pub initial_bytes : Option (List ℕ)
  pub step_bytes : Option (List ℕ)
  pub bad_bytes : Option (List ℕ)
  pub written : HaveWritten known known' (Some []) initial_bytes (Some []) step_bytes (Some []) bad_bytes
  pub stopped : StopsParts initial step initial_bytes step_bytes old new
