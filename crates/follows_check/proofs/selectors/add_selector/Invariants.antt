use Rattle.std.proofs.Common.{◌≡◌, ℕ, ◌*◌, ◌++◌, drop}
use Rattle.refutation_rules.specs.Follows.{selector_clauses}
use Rattle.follows_check.proofs.selectors.add_selector.Given as goal

-- with the clauses of the literals to come they are all
abbrev pub invariant-loop-lit : goal.invariant-loop-lit
invariant-loop-lit l = (x : ℕ) → l.selector ≡ 2 * x → l.formula ++ selector_clauses x (drop l.lit-index l.claim) ≡ l.fn.formula ++ selector_clauses x l.claim
