use Rattle.std.proofs.Common.{◌≡◌, drop}
use Rattle.clause_store.specs.Growth.{not_sampling_among}
use Rattle.checker_steps.proofs.variables.some_not_sampling.Given as goal

abbrev pub invariant-loop-lit : goal.invariant-loop-lit
invariant-loop-lit l = not_sampling_among l.variables l.lits ≡ not_sampling_among l.variables (drop l.lit-index l.lits)
