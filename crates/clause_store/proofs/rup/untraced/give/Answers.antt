use Rattle.std.proofs.Common.{ℕ, None, sym, ap, ◌∙◌, subst}
use Rattle.clause_store.specs.Trail.{freed}
use Rattle.clause_store.specs.Units.{IsGiven, unit_at}
use Rattle.clause_store.proofs.AssumeLemmas.{freed-push, is_undoable-overwritten}
use Rattle.clause_store.proofs.rup.untraced.give.Goals as goal

pub returns-clause-ok : goal.returns-clause-ok
returns-clause-ok c = subst (λ (i : ℕ). IsGiven c.args.units.now i c.args.value c.give.new.self) c.index.ensures.value c.give.ensures

pub returns-clause-undoable : goal.returns-clause-undoable
returns-clause-undoable c = is_undoable-overwritten _ _ _ _ c.args.lit _ None _ c.index.ensures.value
    (sym (ap (unit_at c.args.units.now) c.index.ensures.value ∙ c.requires.free))
    (ap freed c.in_ok-push.ensures.items ∙ freed-push _ c.args.lit) c.give.ensures.2 c.requires.known c.requires.trail
