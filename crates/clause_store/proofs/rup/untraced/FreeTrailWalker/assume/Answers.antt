use Rattle.std.proofs.Common.{◌≡◌, false, length, Some, ap, sym, ◌∙◌}
use Rattle.std.proofs.lemmas.List.{take_all}
use Rattle.checker_rules.specs.State.{some_true_unit}
use Rattle.clause_store.specs.StateOf.{stored_units}
use Rattle.clause_store.specs.Units.{lit_value}
use Rattle.clause_store.proofs.AssumeLemmas.{assume-all, assume-met, assume-skip, assume-step, is_undoable_then, known-at, none_true-step}
use Rattle.clause_store.proofs.UnitsLemmas.{true_lits-truth, truth}
use Rattle.clause_store.proofs.rup.untraced.FreeTrailWalker.assume.Goals as goal
use Rattle.clause_store.proofs.rup.untraced.FreeTrailWalker.assume.Goals.{in-None+in_ok-give-in-None, in-Some-false}

pub known_lit_value-requires : goal.known_lit_value-requires
known_lit_value-requires c = known-at c.args.lits.now c.loop-lit.lit-index c.lit-item.result (length c.loop-lit.units)
    (rw c.loop-lit.invariant.undoable.known c.requires.known) c.loop-lit-test.true c.lit-item.is

pub give-requires-clause-known : goal.give-requires-clause-known
give-requires-clause-known c = known-at c.args.lits.now c.loop-lit.lit-index c.lit-item.result (length c.loop-lit.units)
    (rw c.loop-lit.invariant.undoable.known c.requires.known) c.loop-lit-test.true c.lit-item.is

pub loop-lit-preserved : goal.loop-lit-preserved
loop-lit-preserved c =
    let us = c.loop-lit.units in let m = c.lit-item.result in let inv = c.loop-lit.invariant in
    let known = known-at c.args.lits.now c.loop-lit.lit-index m (length us) (rw inv.undoable.known c.requires.known) c.loop-lit-test.true c.lit-item.is in
    elim c.match-known_lit_value.branch [
      | in-Some-false w ↦
          let value : lit_value us m ≡ Some false = sym c.known_lit_value.ensures ∙ w.in-Some-false.is ∙ ap Some w.in-Some-false.field-0-test in
          rw (w.units-is, w.self-is) (record {
            same = assume-skip us _ c.args.lits.now c.loop-lit.lit-index m c.loop-lit-test.true c.lit-item.is value inv.same;
            none_true = none_true-step us _ c.args.lits.now c.loop-lit.lit-index m c.loop-lit-test.true c.lit-item.is
                (true_lits-truth us m ∙ ap truth value) inv.same inv.none_true;
            undoable = inv.undoable;
          })
      | in-None+in_ok-give-in-None w ↦
          let given = w.in_ok-give-in-None.ensures.ok in
          let off = true_lits-truth us m ∙ ap truth (sym c.known_lit_value.ensures ∙ w.in-None.is) in
          rw (w.units-is, w.self-is) (record {
            same = assume-step us _ _ c.args.lits.now c.loop-lit.lit-index m given.0 c.loop-lit-test.true c.lit-item.is known
                (given.1 ∙ w.is_negative.ensures) given.2 off inv.same;
            none_true = none_true-step us _ c.args.lits.now c.loop-lit.lit-index m c.loop-lit-test.true c.lit-item.is off inv.same inv.none_true;
            undoable = is_undoable_then _ _ _ _ _ _ inv.undoable w.give.ensures.undoable;
          })
    ]

pub returns-in-Some-true-clause-met : goal.returns-in-Some-true-clause-met
returns-in-Some-true-clause-met c = assume-met c.loop-lit.units _ c.args.lits.now c.loop-lit.lit-index c.lit-item.result c.loop-lit-test.true c.lit-item.is
    (sym c.known_lit_value.ensures ∙ c.in-Some-true.is ∙ ap Some c.in-Some-true.field-0-test) c.requires.no_tautology c.loop-lit.invariant.same

pub returns-clause-met : goal.returns-clause-met
returns-clause-met c = sym c.loop-lit.invariant.none_true
    ∙ ap (some_true_unit (stored_units c.args.units.now)) (take_all c.loop-lit.lit-index c.args.lits.now c.loop-lit-test.false)

pub returns-clause-ok : goal.returns-clause-ok
returns-clause-ok c = λ _. assume-all _ _ c.args.lits.now c.loop-lit.lit-index c.loop-lit-test.false c.loop-lit.invariant.same
