use Rattle.clause_store.proofs.ColumnLemmas.{is_place, units_by-free}
use Rattle.clause_store.proofs.clauses.units.Units.free.Goals as goal

pub index_mut-requires : goal.index_mut-requires
index_mut-requires c = rw c.self.inside.values.ok.0 (is_place _ _ _ _ _ c.self.invariant c.self.view_is c.requires).in_values

pub returns : goal.returns
returns c = cc (units_by-free c.self.inside.values.items c.self.inside.sources.items c.self.inside.numbers.items c.args.index c.self.invariant)
