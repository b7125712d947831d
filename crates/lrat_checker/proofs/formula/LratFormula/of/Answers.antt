use Rattle.std.proofs.Common.{[], ◌∷◌, ◌++◌, sym, ap, ◌∙◌, append-nil, append_assoc, subst}
use Rattle.lrat_checker.specs.Standing.{HoldsFormula}
use Rattle.lrat_checker.proofs.formula.LratFormula.of.Goals as goal

pub loop-clause-init : goal.loop-clause-init
loop-clause-init c = ([], c.into_iter-clause-iterator.ensures.into_iter_gives, c.in_ok-made.ensures)

pub loop-clause-preserved : goal.loop-clause-preserved
loop-clause-preserved c =
    let given = c.loop-clause.invariant.0 in
    let clause = c.in-Some.clause.now in (
      given ++ clause ∷ [],
      append_assoc given (clause ∷ []) c.next.new.self ∙ ap (λ cs. given ++ cs) (sym c.in-Some.ensures.steps) ∙ c.loop-clause.invariant.1,
      c.in_ok-add_clause.ensures.given given c.loop-clause.invariant.2,
    )

pub returns : goal.returns
returns c =
    let given = c.loop-clause.invariant.0 in
    subst (λ cs. HoldsFormula cs c.loop-clause.made) (sym (append-nil given) ∙ ap (λ cs. given ++ cs) (sym c.in-None.ensures.steps.0) ∙ c.loop-clause.invariant.1) c.loop-clause.invariant.2
