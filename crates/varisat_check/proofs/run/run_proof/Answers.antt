use Rattle.std.proofs.lemmas.Grind.{common_steps}
use Rattle.std.proofs.Common.{arith}
use Rattle.varisat_checker.specs.Shown.{state}
use Rattle.varisat_check.proofs.VerdictLemmas.{more_inputs, not_failed, refuted_before, verdict_told}
use Rattle.varisat_check.proofs.run.run_proof.Goals as goal

pub verdict_after-verdict-requires : goal.verdict_after-verdict-requires
verdict_after-verdict-requires g c =
    let lives = not_failed (state c.args.checker.now).failed c.in_default.field-0 c.in_default.ensures.failed in
    λ h. rw c.input_clauses-inputs.ensures (more_inputs (state c.args.checker.now) (state c.check_proof.new.self) (c.in_default.ensures.run lives).answered lives h)

pub returns-in-Ok-clause-refutes : goal.returns-in-Ok-clause-refutes
returns-in-Ok-clause-refutes g c = grind (arith, common_steps, not_failed, refuted_before, verdict_told)
