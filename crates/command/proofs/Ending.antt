-- The status of a call that is refused.
use Rattle.std.proofs.Common.{◌≡◌, ℕ, inl, inr, Result, Ok, Err, IsErr}
use Rattle.command.specs.Statuses.{IsEnd}
use Rattle.verdicts.specs.Statuses.{either}
use Rattle.verdicts.specs.declared.status.Refusal.{Refusal}
use Rattle.verdicts.specs.declared.status.Refusal.TheVariants.{Failed, NotRun}

-- 1 or 2
pub ends : (status : ℕ) (answer : Result ℕ Refusal) → status ≡ either answer → IsErr answer → IsEnd status
ends status (Ok n) is refused = absurd (cc)
ends status (Err Failed) is refused = inr (inl is)
ends status (Err NotRun) is refused = inr (inr is)
