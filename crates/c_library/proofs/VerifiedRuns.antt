-- A status of 0 is that of a verified run.
use Rattle.std.proofs.Common.{◌≡◌, Result, Ok, Err, refl, arith}
use Rattle.sat_formula.specs.declared.fault.DimacsFault.TheVariants as dimacs
use Rattle.sat_formula.specs.declared.read_fault.ReadFault.TheVariants as reads
use Rattle.lrat_checker.specs.declared.fault.LratFault.TheVariants as lines
use Rattle.drat_elaborate.specs.declared.fault.ElaborateFault.TheVariants as elaborated
use Rattle.verdicts.specs.declared.verdict.Verdict.{Verdict}
use Rattle.verdicts.specs.declared.verdict.Verdict.TheVariants.{Verified}
use Rattle.lrat_check.specs.declared.fault.RunFault as lrat
use Rattle.lrat_check.specs.declared.fault.RunFault.TheVariants as lrat_fault
use Rattle.drat_check.specs.declared.fault.ProofFault.TheVariants as proofs
use Rattle.drat_check.specs.declared.fault.RunFault as drat
use Rattle.drat_check.specs.declared.fault.RunFault.TheVariants as drat_fault
use Rattle.model_check.specs.declared.fault.RunFault as model
use Rattle.model_check.specs.declared.fault.RunFault.TheVariants as model_fault
use Rattle.model_check.specs.declared.verdict.Verdict as model_verdict
use Rattle.model_check.specs.declared.verdict.Verdict.TheVariants as model_verdicts
use Rattle.c_library.specs.Statuses.{drat_status, lrat_status, model_status}

pub lrat_verified : (r : Result Verdict lrat.RunFault) → lrat_status r ≡ 0 → r ≡ Ok Verified
lrat_verified (Ok Verified) is = refl
lrat_verified (Err (lrat_fault.Formula dimacs.OutOfMemory)) is = absurd (omega arith)
lrat_verified (Err (lrat_fault.Proof lines.OutOfMemory)) is = absurd (omega arith)
lrat_verified r is = absurd (omega arith)

pub drat_verified : (r : Result Verdict drat.RunFault) → drat_status r ≡ 0 → r ≡ Ok Verified
drat_verified (Ok Verified) is = refl
drat_verified (Err (drat_fault.Formula dimacs.OutOfMemory)) is = absurd (omega arith)
drat_verified (Err (drat_fault.Proof (proofs.Unread reads.OutOfMemory))) is = absurd (omega arith)
drat_verified (Err (drat_fault.Proof (proofs.UnreadLine reads.OutOfMemory))) is = absurd (omega arith)
drat_verified (Err (drat_fault.Proof (proofs.Refused elaborated.OutOfMemory))) is = absurd (omega arith)
drat_verified r is = absurd (omega arith)

pub model_verified : (r : Result model_verdict.Verdict model.RunFault) → model_status r ≡ 0 → r ≡ Ok model_verdicts.Verified
model_verified (Ok model_verdicts.Verified) is = refl
model_verified (Err (model_fault.Answer reads.OutOfMemory)) is = absurd (omega arith)
model_verified (Err (model_fault.Formula dimacs.OutOfMemory)) is = absurd (omega arith)
model_verified r is = absurd (omega arith)
