use Rattle.std.proofs.Common.{sym, ◌∙◌}
use Rattle.clause_store.proofs.ColumnLemmas.{in_range, is_place, unit-read}
use Rattle.clause_store.proofs.clauses.units.Units.get.Goals as goal

pub index-requires : goal.index-requires
index-requires c = rw c.self.inside.sources.ok.0 (is_place _ _ _ _ _ c.self.invariant c.self.view_is (in_range _ _ _ (sym c.value.ensures ∙ c.in_ok-value.was))).in_sources

pub index-requires-2 : goal.index-requires-2
index-requires-2 c = rw c.self.inside.numbers.ok.0 (is_place _ _ _ _ _ c.self.invariant c.self.view_is (in_range _ _ _ (sym c.value.ensures ∙ c.in_ok-value.was))).in_numbers

pub returns : goal.returns
returns c = unit-read _ _ _ _ _ _ _ _ _ c.self.invariant c.self.view_is (sym c.value.ensures ∙ c.in_ok-value.was) c.index.ensures c.index-2.ensures c.id-id.ensures
