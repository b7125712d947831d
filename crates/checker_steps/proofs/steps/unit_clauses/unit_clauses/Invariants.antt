use Rattle.std.proofs.Common.{drop}
use Rattle.checker_steps.proofs.Common.{ContextInvariant, context_state, listeners_of}
use Rattle.checker_steps.proofs.UnitsSoFar.{UnitsSoFar}
use Rattle.checker_steps.proofs.steps.unit_clauses.unit_clauses.Given as goal

abbrev pub invariant-loop-lit : goal.invariant-loop-lit
invariant-loop-lit g l = record {
  kept : ContextInvariant l.ctx;
  so_far : UnitsSoFar g.P.ProofProcessor g.T.ProofTranscriptProcessor (context_state l.fn.ctx) l.units
      (listeners_of l.fn.ctx.processing) (context_state l.ctx) (drop l.lit-index l.units) (listeners_of l.ctx.processing);
}
