use Rattle.std.proofs.Common.{◌≡◌, ◌≤◌, ◌-◌, ◌^◌, true, false}
use Rattle.varisat_checker.proofs.Common.{step_limit, ContextInvariant, context_state, listeners_of}
use Rattle.proof_bytes.specs.NextStep.{bytes_left, format_of, has_ended}
use Rattle.varisat_checker.proofs.RunDelivered.{RunDelivered}
use Rattle.varisat_checker.proofs.proof.check_proof.Given as goal

abbrev pub invariant-steps : goal.invariant-steps
invariant-steps g l = record {
  open_reader : l.ctx.checker_state.ended ≡ false → has_ended l.reader ≡ false;
  kept : ContextInvariant l.ctx;
  so_far : RunDelivered g.P.ProofProcessor g.T.ProofTranscriptProcessor (g.R.Read.remaining l.fn.proof)
      (bytes_left g.R.Read.remaining l.reader) (context_state l.fn.ctx) (context_state l.ctx) (format_of l.reader)
      (listeners_of l.fn.ctx.processing) (listeners_of l.ctx.processing);
  ended : l.fn.ctx.checker_state.ended ≡ true → l.ctx.checker_state.ended ≡ true;
  exhausted : step_limit ≤ l.fn.ctx.checker_state.step → step_limit ≤ l.ctx.checker_state.step;
}

abbrev pub decreases-steps : goal.decreases-steps
decreases-steps g l = 2 ^ 64 - 1 - l.ctx.checker_state.step
