use Rattle.clause_store.proofs.ColumnLemmas.{is_place, unit-write, units_by-free}
use Rattle.clause_store.proofs.clauses.units.Units.set.Goals as goal

pub index_mut-requires : goal.index_mut-requires
index_mut-requires c = rw c.self.inside.values.ok.0 (is_place _ _ _ _ _ c.self.invariant c.self.view_is c.requires).in_values

pub index_mut-requires-in-Some : goal.index_mut-requires-in-Some
index_mut-requires-in-Some c = rw c.self.inside.sources.ok.0 (is_place _ _ _ _ _ c.self.invariant c.self.view_is c.requires).in_sources

pub index_mut-requires-in-Some-2 : goal.index_mut-requires-in-Some-2
index_mut-requires-in-Some-2 c = rw c.self.inside.numbers.ok.0 (is_place _ _ _ _ _ c.self.invariant c.self.view_is c.requires).in_numbers

pub index_mut-requires-in-None : goal.index_mut-requires-in-None
index_mut-requires-in-None c = rw c.self.inside.values.ok.0 (is_place _ _ _ _ _ c.self.invariant c.self.view_is c.requires).in_values

pub returns-in-Some : goal.returns-in-Some
returns-in-Some c = unit-write _ _ _ _ c.args.index c.of.result c.with_number-source.result.0 c.with_number-source.result.1 c.in-Some.unit
    c.args.unit c.self.invariant c.self.view_is c.of.ensures c.with_number-source.ensures c.in-Some.is

pub returns-in-None : goal.returns-in-None
returns-in-None c =
    cc (units_by-free c.self.inside.values.items c.self.inside.sources.items c.self.inside.numbers.items c.args.index c.self.invariant)
