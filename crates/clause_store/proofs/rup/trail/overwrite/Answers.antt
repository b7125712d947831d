use Rattle.std.proofs.Common.{◌++◌, ◌∷◌, [], ℕ, Option, sym, ap, ◌∙◌}
use Rattle.clause_store.specs.declared.clauses.units.UnitClause.{UnitClause}
use Rattle.clause_store.specs.Units.{unit_at}
use Rattle.clause_store.proofs.AssumeLemmas.{is_undoable-overwritten}
use Rattle.clause_store.proofs.rup.trail.overwrite.Goals as goal

pub returns-clause-undoable : goal.returns-clause-undoable
returns-clause-undoable c = is_undoable-overwritten _ _ _ _ c.args.lit _ _ _ c.index.ensures.value
    (ap (unit_at c.args.units.now) (sym c.index.ensures.value))
    (c.in_ok-push.ensures.items ∙ ap (λ (t : ℕ × Option UnitClause). c.args.trail.now.items ++ t ∷ []) c.kept.ensures) c.set.ensures
    c.requires.known c.requires.trail
