use Rattle.std.proofs.Common.{ap, ◌∙◌}
use Rattle.std.specs.Option.{option_map}
use Rattle.clause_store.specs.declared.clauses.units.UnitClause.{UnitClause}
use Rattle.clause_store.specs.Units.{unit_at}
use Rattle.clause_store.proofs.ColumnLemmas.{is_place, value-units_by}
use Rattle.clause_store.proofs.clauses.units.Units.values.Goals as goal

pub returns : goal.returns
returns c i less =
    let place = is_place _ _ _ _ i c.self.invariant c.self.view_is less in (
      rw c.as_slice.ensures.value place.in_values,
      rw c.as_slice.ensures.value (value-units_by _ _ _ i c.self.invariant ∙ ap (λ vs. option_map (λ (u : UnitClause). u.value) (unit_at vs i)) c.self.view_is),
    )
