use Rattle.std.proofs.Common.{◌≡◌, ℕ}
use Rattle.clause_table.specs.Named.{clause_of}
use Rattle.lrat_checker.specs.Counts.{lit_count}
use Rattle.lrat_checker.specs.Uses.{uses_below}
use Rattle.lrat_checker.proofs.clauses.Clauses.counted.Given as goal

-- the clauses of the ids so far are counted
abbrev pub invariant-loop-id : goal.invariant-loop-id
invariant-loop-id l = (k : ℕ) → lit_count l.counts k ≡ uses_below (clause_of l.self.named) l.id k
