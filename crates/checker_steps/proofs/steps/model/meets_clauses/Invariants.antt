use Rattle.std.proofs.Common.{◌≡◌}
use Rattle.checker_steps.proofs.Common.{values, is_marked}
use Rattle.checker_steps.proofs.MetLemmas.{AllWithin, all_met}
use Rattle.checker_steps.proofs.steps.model.meets_clauses.Given as goal

abbrev pub invariant-loop-bucket : goal.invariant-loop-bucket
invariant-loop-bucket l = record {
  within : AllWithin l.clauses.literal_buffer.items l.bucket-iterator;
  same : all_met (is_marked l.marks) l.clauses.literal_buffer.items l.bucket-iterator ≡ all_met (is_marked l.marks) l.clauses.literal_buffer.items (values l.clauses.buckets);
}
