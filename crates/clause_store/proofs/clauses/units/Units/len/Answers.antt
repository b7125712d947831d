use Rattle.std.proofs.Common.{length, sym, ap, ◌∙◌}
use Rattle.clause_store.proofs.ColumnLemmas.{length-units_by}
use Rattle.clause_store.proofs.clauses.units.Units.len.Goals as goal

pub returns : goal.returns
returns c = c.len.ensures ∙ c.self.inside.values.ok.0 ∙ sym (length-units_by _ _ _ c.self.invariant) ∙ ap length c.self.view_is
