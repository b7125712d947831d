use Rattle.std.proofs.Common.{◌≡◌, ℕ, drop}
use Rattle.lrat_rules.specs.Groups.{add_negated}
use Rattle.clause_table.specs.Values.{IsGrown, among, lits_besides}
use Rattle.clause_table.proofs.values.Values.negate.Given as goal

-- with the negations still to come, all are true
abbrev pub invariant-loop-lit : goal.invariant-loop-lit
invariant-loop-lit l = record {
  set : (k : ℕ) → add_negated (lits_besides l.besides (drop l.lit-index l.clause)) (among l.self) k ≡ add_negated (lits_besides l.besides l.clause) (among l.fn.self) k;
  grown : IsGrown l.fn.self l.self;
}
