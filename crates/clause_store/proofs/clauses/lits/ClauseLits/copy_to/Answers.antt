use Rattle.std.proofs.Common.{◌≡◌, ◌+◌, ◌≤◌, ℕ, List, length, rules, arith}
use Rattle.std.proofs.lemmas.Bool.Decides.{nat_tests}
use Rattle.checker_rules.specs.LiveLiterals.{live_of}
use Rattle.clause_store.proofs.clauses.lits.ClauseLits.copy_to.Goals as goal

-- three literals or fewer are not in the buffer
short : (n : ℕ) (ls : List ℕ) → length ls ≤ 3 → n ≡ n + live_of ls
short n ls few = grind (arith, nat_tests)

pub returns-in-Two-clause-used : goal.returns-in-Two-clause-used
returns-in-Two-clause-used c =
    let few : length c.in-Two.field-0 ≤ 3 = search rules in
    rw c.in-Two.is (short (length c.args.other.now.items) c.in-Two.field-0 few)

pub returns-in-Three-clause-used : goal.returns-in-Three-clause-used
returns-in-Three-clause-used c =
    let few : length c.in-Three.field-0 ≤ 3 = search rules in
    rw c.in-Three.is (short (length c.args.other.now.items) c.in-Three.field-0 few)
