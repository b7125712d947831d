-- What one call does to the satisfying set and to its members, over the steps before it: for the contract of that call.
use Rattle.std.proofs.Common.{◌≡◌, ℕ, Bool, List}
use Rattle.checker_rules.specs.Headline.{holds}
use Rattle.checker_rules.specs.State.{State, sat}
use Rattle.checker_rules.specs.Step.{Step}

-- the satisfying set of the state is the fold over these steps
abbrev pub IsFold : List Step → State → Type 0
IsFold ts s = (a : ℕ → Bool) → sat s a ≡ holds ts a
