use Rattle.std.proofs.Common.{◌≡◌, ◌+◌, ◌-◌, ◌^◌, ℕ, drop, length, min}
use Rattle.lrat_rules.specs.Counts.{count_of}
use Rattle.lrat_checker.specs.Counts.{lit_count}
use Rattle.lrat_checker.proofs.counts.LitCounts.raise.Given as goal

-- with the literals still to come, all are counted
abbrev pub invariant-loop-lit : goal.invariant-loop-lit
invariant-loop-lit l = record {
  counts : (k : ℕ) → count_of k (drop l.lit-index l.clause) + lit_count l.self k ≡ count_of k l.clause + lit_count l.fn.self k;
  stored : l.self.stored ≡ min (l.fn.self.stored + length l.clause) (2 ^ 64 - 1);
}
