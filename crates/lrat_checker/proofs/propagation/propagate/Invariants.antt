use Rattle.std.proofs.Common.{◌≡◌, drop, map}
use Rattle.lrat_rules.specs.Lines.{leading}
use Rattle.lrat_rules.specs.Propagation.{propagate}
use Rattle.lrat_checker.specs.Held.{table_of}
use Rattle.clause_table.specs.Values.{IsGrown, among}
use Rattle.lrat_text.specs.Grammar.{hint_of}
use Rattle.lrat_checker.proofs.propagation.propagate.Given as goal

-- the hints from here end as all do from the start
abbrev pub invariant-loop-hint : goal.invariant-loop-hint
invariant-loop-hint l = record {
  ending : propagate (table_of l.clauses).named (among l.values) (leading (map hint_of (drop l.hint-index l.hints))) ≡
      propagate (table_of l.clauses).named (among l.fn.values) (leading (map hint_of l.hints));
  grown : IsGrown l.fn.values l.values;
}
