-- Files that get their names.
use Rattle.std.proofs.Common.{◌≡◌, ℕ, List, Option, Some, None}
use Rattle.std.specs.Io.KnownBytes.{Keeps}
use Rattle.command.specs.Outputs.{Gives}

-- it gets its name with what a buffer held, once that is written
pub gives_kept : (old new : Option (List (List ℕ × List ℕ))) (place held written : Option (List ℕ))
    → Keeps held written → Gives old new place written → Gives old new place held
gives_kept old new None held written kept h = h
gives_kept old new (Some place) None written kept h = tt
gives_kept old new (Some place) (Some bytes) None kept h = absurd kept
gives_kept old new (Some place) (Some bytes) (Some others) kept h = rw (← kept) h
