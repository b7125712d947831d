use Rattle.std.proofs.Common.{arith}
use Rattle.clause_store.specs.declared.clauses.units.Value.TheVariants as values
use Rattle.clause_store.proofs.ColumnLemmas.{value-units_by}
use Rattle.clause_store.proofs.clauses.units.Units.value.Goals as goal

pub returns : goal.returns
returns c =
    let columns = c.self.inside in
    cc (c.get.ensures.lookup.4 (omega arith) values.Free, value-units_by columns.values.items columns.sources.items columns.numbers.items c.args.index c.self.invariant)
