use Rattle.std.proofs.Common.{◌≡◌, drop}
use Rattle.std.specs.List.{find}
use Rattle.clause_table.specs.Values.{among}
use Rattle.session_checker.proofs.given.true_lit.Given as goal

-- none before is true
abbrev pub invariant-loop-lit : goal.invariant-loop-lit
invariant-loop-lit l = find (among l.values) (drop l.lit-index l.clause) ≡ find (among l.values) l.clause
