use Rattle.std.proofs.Common.{[], ◌∷◌, ◌++◌, None, ap, ◌∙◌}
use Rattle.clause_store.specs.declared.clauses.units.Source.TheVariants.{Stored}
use Rattle.clause_store.specs.declared.clauses.units.Value.TheVariants as values
use Rattle.clause_store.proofs.ColumnLemmas.{units_by-push}
use Rattle.clause_store.proofs.clauses.units.Units.push_free.Goals as goal

pub returns-clause-ok : goal.returns-clause-ok
returns-clause-ok c =
    let vs = c.in_ok-push.ensures.items ∙ ap (λ xs. xs ++ values.Free ∷ []) c.reserve.ensures.items in
    let ss = c.in_ok-push-2.ensures.items ∙ ap (λ xs. xs ++ Stored ∷ []) c.reserve-2.ensures.items in
    let ns = c.in_ok-push-3.ensures.items ∙ ap (λ xs. xs ++ 0 ∷ []) c.reserve-3.ensures.items in
    rw (vs, ss, ns) (units_by-push _ _ _ values.Free Stored 0 c.self.invariant ∙ ap (λ us. us ++ None ∷ []) c.self.view_is)
