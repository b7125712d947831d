use Rattle.std.proofs.Common.{◌≡◌, drop}
use Rattle.checker_steps.proofs.Common.{list_all, stored_of, is_marked, has_marked}
use Rattle.clause_store.specs.Crowds.{standing}
use Rattle.checker_steps.proofs.steps.model.meets_crowd.Given as goal

abbrev pub invariant-loop-place : goal.invariant-loop-place
invariant-loop-place l = list_all (λ c. has_marked (is_marked l.marks) (stored_of l.buffer c)) (standing (drop l.place-index l.places)) ≡
    list_all (λ c. has_marked (is_marked l.marks) (stored_of l.buffer c)) (standing l.places)
