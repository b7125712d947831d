use Rattle.std.proofs.Common.{◌≡◌, ℕ, ◌||◌, [], drop}
use Rattle.checker_steps.proofs.Common.{has, state_of, ClauseHasher, CheckerState, is_marked}
use Rattle.checker_rules.specs.Model.{model_cause}
use Rattle.checker_steps.proofs.ModelLemmas.{causes_from}
use Rattle.checker_steps.proofs.steps.model.mark_literals.Given as goal

abbrev pub invariant-loop-lit : goal.invariant-loop-lit
invariant-loop-lit l = record {
  same : (st : CheckerState) (h : ClauseHasher) →
      causes_from (state_of st h l.clauses l.variables) (is_marked l.marks) (drop l.lit-index l.assignment) ≡
      model_cause (state_of st h l.clauses l.variables) [] l.assignment;
  marked : (k : ℕ) → (is_marked l.marks k || has k (drop l.lit-index l.assignment)) ≡ has k l.assignment;
}
