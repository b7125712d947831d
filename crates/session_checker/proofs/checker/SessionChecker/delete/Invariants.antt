use Rattle.std.proofs.Common.{◌≡◌, ℕ, cond, None, drop}
use Rattle.sat_rules.specs.Clauses.{has}
use Rattle.clause_table.specs.Named.{clause_of}
use Rattle.session_checker.specs.Rules.{AllFollow}
use Rattle.session_checker.proofs.checker.SessionChecker.delete.Given as goal

-- fewer clauses, and without those of the ids still to come the ones that are left
abbrev pub invariant-loop-id : goal.invariant-loop-id
invariant-loop-id l = record {
  given : l.self.given ≡ l.fn.self.given;
  follow : AllFollow l.self.given.clauses (clause_of l.self.named);
  named : (k : ℕ) → cond (has k (drop l.id-index l.ids)) None (clause_of l.self.named k)
      ≡ cond (has k l.ids) None (clause_of l.fn.self.named k);
}
