use Rattle.std.proofs.Common.{◌≡◌, drop}
use Rattle.lrat_rules.specs.Tables.{drop_all}
use Rattle.clause_table.specs.Named.{stored_clauses}
use Rattle.lrat_checker.specs.Held.{table_of}
use Rattle.lrat_checker.proofs.clauses.Clauses.remove.Given as goal

-- what is stored after the ids still to come
abbrev pub invariant-loop-id : goal.invariant-loop-id
invariant-loop-id l = record {
  table : drop_all (drop l.id-index l.ids) (table_of l.self) ≡ drop_all l.ids (table_of l.fn.self);
  stored : stored_clauses l.self.named ≡ stored_clauses l.fn.self.named;
}
