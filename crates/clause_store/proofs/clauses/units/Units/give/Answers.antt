use Rattle.std.proofs.Common.{Some, set, ap, ◌∙◌}
use Rattle.clause_store.proofs.ColumnLemmas.{is_place, units_by-given}
use Rattle.clause_store.proofs.clauses.units.Units.give.Goals as goal

pub index_mut-requires : goal.index_mut-requires
index_mut-requires c = rw c.self.inside.values.ok.0 (is_place _ _ _ _ _ c.self.invariant c.self.view_is c.requires).in_values

pub returns : goal.returns
returns c =
    let place = is_place _ _ _ _ _ c.self.invariant c.self.view_is c.requires in
    let g = units_by-given c.self.inside.values.items c.self.inside.sources.items c.self.inside.numbers.items c.args.index c.of.result c.args.value c.self.invariant place.in_values c.of.ensures in
    (g.0, g.1, g.2 ∙ ap (λ us. set us c.args.index (Some g.0)) c.self.view_is)
