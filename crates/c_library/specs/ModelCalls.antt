-- What is told of a clause that an answer does not meet.
--     clause_of r, line_of r      its number and its line, or 0
use Rattle.std.specs.Prelude.{ℕ, Result, Ok, Err}
use Rattle.model_check.specs.declared.fault.RunFault.{RunFault}
use Rattle.model_check.specs.declared.verdict.Verdict.{Verdict}
use Rattle.model_check.specs.declared.verdict.Verdict.TheVariants.{Verified, NotVerified}

abbrev pub clause_of : Result Verdict RunFault → ℕ
clause_of (Ok Verified) = 0
clause_of (Ok (NotVerified clause line)) = clause
clause_of (Err fault) = 0

abbrev pub line_of : Result Verdict RunFault → ℕ
line_of (Ok Verified) = 0
line_of (Ok (NotVerified clause line)) = line
line_of (Err fault) = 0
