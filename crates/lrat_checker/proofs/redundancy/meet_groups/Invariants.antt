use Rattle.std.proofs.Common.{◌≡◌, map}
use Rattle.lrat_rules.specs.Lines.{groups}
use Rattle.lrat_rules.specs.Tables.{met_by_groups, no_id}
use Rattle.lrat_checker.specs.Held.{seen_by, table_of}
use Rattle.clause_table.specs.Values.{among}
use Rattle.lrat_text.specs.Grammar.{hint_of}
use Rattle.lrat_checker.proofs.redundancy.meet_groups.Given as goal

-- the groups from here give what all give from the start
abbrev pub invariant-loop-group : goal.invariant-loop-group
invariant-loop-group l = record {
  found : met_by_groups (table_of l.clauses).named (among l.work.values) l.lit (seen_by l.work) l.met l.group-iterator
      ≡ met_by_groups (table_of l.clauses).named (among l.fn.work.values) l.lit no_id 0 (groups (map hint_of l.hints));
  values : l.work.values ≡ l.fn.work.values;
}
