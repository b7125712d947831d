use Rattle.std.proofs.Common.{◌≡◌, ◌+◌, length}
use Rattle.refutation_rules.specs.Follows.{follow_clauses}
use Rattle.follows_check.specs.Questions.{first_free}
use Rattle.follows_check.proofs.Selecting.{IsSoFar}
use Rattle.follows_check.proofs.selectors.add_failing.Given as goal

abbrev pub invariant-loop-claim : goal.invariant-loop-claim
invariant-loop-claim l = record {
  so_far : IsSoFar l.formula l.selectors.items l.index l.claim-iterator (follow_clauses (first_free l.fn.formula l.claims) l.fn.formula l.claims);
  counted : l.index + length l.claim-iterator ≡ first_free l.fn.formula l.claims + length l.claims;
}
