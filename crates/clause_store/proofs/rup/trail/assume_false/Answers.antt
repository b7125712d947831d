use Rattle.std.proofs.Common.{◌∙◌, length, refl, sym, subst}
use Rattle.clause_store.specs.Trace.{KeepsStored}
use Rattle.clause_store.proofs.AssumeLemmas.{assume-all, assume-step, is_undoable_then, known-at, start_set-free, unlisted-all, unlisted-step}
use Rattle.clause_store.proofs.TraceLemmas.{keeps-set, keeps-then}
use Rattle.clause_store.proofs.rup.trail.assume_false.Goals as goal

pub overwrite-requires-clause-known : goal.overwrite-requires-clause-known
overwrite-requires-clause-known c = known-at _ _ _ _
    (rw c.loop-lit.invariant.undoable.known c.requires.known) c.loop-lit-test.true c.lit-item.is

pub loop-lit-preserved : goal.loop-lit-preserved
loop-lit-preserved c =
    let us = c.loop-lit.units in let m = c.lit-item.result in let written = c.in_ok-overwrite.ensures.ok in
    let known = known-at c.args.lits.now c.loop-lit.lit-index m (length us) (rw c.loop-lit.invariant.undoable.known c.requires.known) c.loop-lit-test.true c.lit-item.is in
    record {
      same = assume-step us _ _ c.args.lits.now c.loop-lit.lit-index m _ c.loop-lit-test.true c.lit-item.is known c.is_negative.ensures
          written (c.loop-lit.invariant.same m ∙ start_set-free _ c.args.lits.now c.loop-lit.lit-index m c.loop-lit-test.true c.lit-item.is c.requires.free c.requires.no_tautology)
          c.loop-lit.invariant.same;
      unlisted = unlisted-step us _ _ c.args.lits.now c.loop-lit.lit-index m _ c.loop-lit-test.true c.lit-item.is known refl written c.loop-lit.invariant.unlisted;
      kept = keeps-then _ us _ c.loop-lit.invariant.kept (subst (KeepsStored us) (sym written) (keeps-set us _ _ known refl));
      undoable = is_undoable_then _ _ _ _ _ _ c.loop-lit.invariant.undoable c.overwrite.ensures.undoable;
    }

pub returns-in_err-overwrite-clause-undoable : goal.returns-in_err-overwrite-clause-undoable
returns-in_err-overwrite-clause-undoable c = is_undoable_then _ _ _ _ _ _ c.loop-lit.invariant.undoable c.overwrite.ensures.undoable

pub returns-clause-ok : goal.returns-clause-ok
returns-clause-ok c = assume-all _ _ _ _ c.loop-lit-test.false c.loop-lit.invariant.same

pub returns-clause-unlisted : goal.returns-clause-unlisted
returns-clause-unlisted c = unlisted-all _ _ _ _ c.requires.stored c.loop-lit-test.false c.loop-lit.invariant.unlisted
