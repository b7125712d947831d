-- Statuses of calls: those of the programs, but 4 where there was no memory.
--     formula_status, read_status      of the fault of a formula;  of that of a proof or an answer
--     lrat_status, drat_status, model_status      of the runs of three programs
use Rattle.std.specs.Prelude.{ℕ, Result, Ok, Err}
use Rattle.sat_formula.specs.declared.fault.DimacsFault.{DimacsFault}
use Rattle.sat_formula.specs.declared.fault.DimacsFault.TheVariants as dimacs
use Rattle.sat_formula.specs.declared.read_fault.ReadFault.{ReadFault}
use Rattle.sat_formula.specs.declared.read_fault.ReadFault.TheVariants as reads
use Rattle.lrat_checker.specs.declared.fault.LratFault.{LratFault}
use Rattle.lrat_checker.specs.declared.fault.LratFault.TheVariants as lines
use Rattle.drat_elaborate.specs.declared.fault.ElaborateFault.{ElaborateFault}
use Rattle.drat_elaborate.specs.declared.fault.ElaborateFault.TheVariants as elaborated
use Rattle.verdicts.specs.Statuses.{status_of}
use Rattle.verdicts.specs.Verdicts.{shows_unsat}
use Rattle.verdicts.specs.declared.verdict.Verdict.{Verdict}
use Rattle.lrat_check.specs.declared.fault.RunFault as lrat
use Rattle.lrat_check.specs.declared.fault.RunFault.TheVariants as lrat_fault
use Rattle.drat_check.specs.declared.fault.ProofFault.{ProofFault}
use Rattle.drat_check.specs.declared.fault.ProofFault.TheVariants as proofs
use Rattle.drat_check.specs.declared.fault.RunFault as drat
use Rattle.drat_check.specs.declared.fault.RunFault.TheVariants as drat_fault
use Rattle.model_check.specs.Verdicts.{shows_sat}
use Rattle.model_check.specs.declared.fault.RunFault as model
use Rattle.model_check.specs.declared.fault.RunFault.TheVariants as model_fault
use Rattle.model_check.specs.declared.verdict.Verdict as model_verdict

abbrev pub formula_status : DimacsFault → ℕ
formula_status (dimacs.Read cause) = 1
formula_status (dimacs.Malformed line kind) = 1
formula_status dimacs.OutOfMemory = 4

-- of a proof or an answer
abbrev pub read_status : {P K : Type 0} → ReadFault P K → ℕ
read_status (reads.Read cause) = 1
read_status (reads.Wrong at kind) = 1
read_status reads.OutOfMemory = 4

-- ---- LRAT

abbrev pub lines_status : LratFault → ℕ
lines_status (lines.Read cause) = 1
lines_status (lines.Unread line kind) = 1
lines_status (lines.Refused line cause) = 1
lines_status lines.OutOfMemory = 4
lines_status lines.Failed = 1

-- a fault is that of the formula or of the proof
abbrev pub lrat_status : Result Verdict lrat.RunFault → ℕ
lrat_status (Ok verdict) = status_of {E = lrat.RunFault} shows_unsat (Ok verdict)
lrat_status (Err (lrat_fault.Formula fault)) = formula_status fault
lrat_status (Err (lrat_fault.Proof fault)) = lines_status fault

-- ---- DRAT, DPR, FRAT and LPR

abbrev pub elaborated_status : ElaborateFault → ℕ
elaborated_status elaborated.OutOfMemory = 4
elaborated_status elaborated.TooLong = 1
elaborated_status (elaborated.NotRedundant step) = 1
elaborated_status (elaborated.NotRedundantByWitness step) = 1
elaborated_status (elaborated.ContradictoryWitness step) = 1
elaborated_status elaborated.NoFreshVariable = 1
elaborated_status (elaborated.NotInFormula step) = 1
elaborated_status (elaborated.NoConflict steps) = 1
elaborated_status elaborated.Internal = 1

abbrev pub proof_status : ProofFault → ℕ
proof_status (proofs.Unread fault) = read_status fault
proof_status (proofs.UnreadLine fault) = read_status fault
proof_status (proofs.Refused fault) = elaborated_status fault
proof_status (proofs.Internal line fault) = 1
proof_status proofs.Unfinished = 1
proof_status proofs.OutOfMemory = 4

-- the lines and the core are written into memory, where nothing but memory can be wanting
abbrev pub drat_status : Result Verdict drat.RunFault → ℕ
drat_status (Ok verdict) = status_of {E = drat.RunFault} shows_unsat (Ok verdict)
drat_status (Err (drat_fault.Formula fault)) = formula_status fault
drat_status (Err (drat_fault.Proof fault)) = proof_status fault
drat_status (Err (drat_fault.Lrat cause)) = 4
drat_status (Err (drat_fault.Trim cause)) = 4
drat_status (Err (drat_fault.Core cause)) = 4

-- ---- models

abbrev pub model_status : Result model_verdict.Verdict model.RunFault → ℕ
model_status (Ok verdict) = status_of {E = model.RunFault} shows_sat (Ok verdict)
model_status (Err (model_fault.Answer fault)) = read_status fault
model_status (Err (model_fault.Formula fault)) = formula_status fault
model_status (Err (model_fault.Cut cut)) = 1
