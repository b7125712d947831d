use Rattle.std.proofs.Common.{◌<◌, length}
use Rattle.std.proofs.lemmas.List.{get_or_default}
use Rattle.clause_store.specs.declared.clauses.units.Value.TheVariants as values
use Rattle.clause_store.proofs.ColumnLemmas.{is_place, unit_at-units_by}
use Rattle.clause_store.proofs.clauses.units.Units.kept.Goals as goal

pub index-requires : goal.index-requires
index-requires c = rw (c.index-index.ensures.value, c.self.inside.values.ok.0) (is_place _ _ _ _ _ c.self.invariant c.self.view_is c.requires).in_values

pub index-requires-2 : goal.index-requires-2
index-requires-2 c = rw (c.index-index.ensures.value, c.self.inside.sources.ok.0) (is_place _ _ _ _ _ c.self.invariant c.self.view_is c.requires).in_sources

pub index-requires-3 : goal.index-requires-3
index-requires-3 c = rw (c.index-index.ensures.value, c.self.inside.numbers.ok.0) (is_place _ _ _ _ _ c.self.invariant c.self.view_is c.requires).in_numbers

pub returns : goal.returns
returns c =
    let less : c.index-index.result < length c.args.self.now = rw c.index-index.ensures.value c.requires in
    let place = is_place _ _ _ _ _ c.self.invariant c.self.view_is less in let columns = c.self.inside in let i = c.index-index.result in
    cc (
      get_or_default columns.values.items i c.index.result.now values.Free place.in_values,
      unit_at-units_by columns.values.items columns.sources.items columns.numbers.items i _ _ c.self.invariant place.in_values c.index-2.ensures c.index-3.ensures,
    )
