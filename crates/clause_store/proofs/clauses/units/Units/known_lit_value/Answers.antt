use Rattle.std.proofs.Common.{◌<◌, length}
use Rattle.clause_store.specs.declared.clauses.units.Value.TheVariants as values
use Rattle.clause_store.specs.Units.{unit_at}
use Rattle.std.proofs.lemmas.List.{get_or_default}
use Rattle.clause_store.proofs.ColumnLemmas.{is_place, value-units_by}
use Rattle.clause_store.proofs.UnitsLemmas.{signed-value}
use Rattle.clause_store.proofs.clauses.units.Units.known_lit_value.Goals as goal

pub index-requires-2 : goal.index-requires-2
index-requires-2 c =
    let less : c.index.result < length c.args.self.now = rw c.index.ensures.value c.requires in
    rw c.self.inside.values.ok.0 (is_place _ _ _ _ _ c.self.invariant c.self.view_is less).in_values

pub returns : goal.returns
returns c =
    let us = c.args.self.now in let m = c.args.lit in let i = c.index.result in
    let less : i < length us = rw c.index.ensures.value c.requires in
    let place = is_place _ _ _ _ _ c.self.invariant c.self.view_is less in
    let columns = c.self.inside in
    cc (
      get_or_default columns.values.items i c.index-2.result.now values.Free place.in_values,
      value-units_by columns.values.items columns.sources.items columns.numbers.items i c.self.invariant,
      signed-value (unit_at us i) m,
    )
