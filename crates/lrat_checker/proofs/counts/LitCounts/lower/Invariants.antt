use Rattle.std.proofs.Common.{◌≡◌, ◌-◌, ℕ, drop}
use Rattle.lrat_rules.specs.Counts.{count_of}
use Rattle.lrat_checker.specs.Counts.{lit_count}
use Rattle.lrat_checker.proofs.counts.LitCounts.lower.Given as goal

-- without the literals still to come, none is counted
abbrev pub invariant-loop-lit : goal.invariant-loop-lit
invariant-loop-lit l = record {
  counts : (k : ℕ) → lit_count l.self k - count_of k (drop l.lit-index l.clause) ≡ lit_count l.fn.self k - count_of k l.clause;
  stored : l.self.stored ≡ l.fn.self.stored;
}
