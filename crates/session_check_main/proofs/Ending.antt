-- How a session ends, by its run.
use Rattle.std.proofs.Common.{ℕ, List, Option, Result, Ok, Err, refl}
use Rattle.session_check.specs.Counts.{all_shown}
use Rattle.session_check.specs.Lines.{Texts}
use Rattle.session_check.specs.Runs.{IsRun}
use Rattle.session_check.specs.declared.counts.Counts.{Counts}
use Rattle.session_check.specs.declared.fault.RunFault.{RunFault}
use Rattle.session_check_main.specs.Sessions.{EndsSession}
use Rattle.verdicts.specs.Statuses.{ended_of}

-- what was written and what is returned are those of the run
pub ends_session : (known : Texts) (before after : Option (List ℕ)) (outcome : Result Counts RunFault)
    → IsRun known before after outcome → EndsSession known before after (ended_of all_shown outcome)
ends_session known before after (Ok counts) run = (run.0, run.1, rw run.2 refl, rw run.2 run.3)
ends_session known before after (Err fault) run = (fault, run)
