-- What a run's status says of it.
use Rattle.std.proofs.Common.{◌≡◌, refl, Ok, Err}
use Rattle.std.specs.declared.result.Result.{Result}
use Rattle.verdicts.specs.Statuses.{status_of}
use Rattle.verdicts.specs.Verdicts.{shows_unsat}
use Rattle.verdicts.specs.declared.verdict.Verdict.{Verdict}
use Rattle.verdicts.specs.declared.verdict.Verdict.TheVariants.{Verified, NotVerified}

-- a run with the status 0 has shown that the formula is unsatisfiable
pub status_zero : {E : Type 0} (r : Result Verdict E) → status_of shows_unsat r ≡ 0 → r ≡ Ok Verified
status_zero (Ok Verified) h = refl
status_zero (Ok NotVerified) h = absurd (cc)
status_zero (Err fault) h = absurd (cc)
