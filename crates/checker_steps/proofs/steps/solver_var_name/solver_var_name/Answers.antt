use Rattle.checker_steps.proofs.Common.{common_steps, map-append, step-solver_var_name}
use Rattle.std.proofs.Common.{[], refl, arith}
use Rattle.checker_steps.proofs.EmissionLemmas.{answers-accept}
use Rattle.checker_steps.proofs.DeliveryLemmas.{whole-none}
use Rattle.checker_steps.proofs.EmissionLemmas.{emits-accepted}
use Rattle.checker_steps.proofs.steps.solver_var_name.solver_var_name.Goals as goal

pub returns-in-Ok-clause-step : goal.returns-in-Ok-clause-step
returns-in-Ok-clause-step g c = grind (arith, common_steps, map-append, answers-accept, step-solver_var_name)

pub returns-in-Ok-clause-delivered : goal.returns-in-Ok-clause-delivered
returns-in-Ok-clause-delivered g c = whole-none g.P.ProofProcessor g.T.ProofTranscriptProcessor _ _ (emits-accepted _ _ [] (returns-in-Ok-clause-step g c).0 refl)
