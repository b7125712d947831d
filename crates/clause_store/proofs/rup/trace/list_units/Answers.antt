use Rattle.std.proofs.Common.{◌≡◌, None, sym, ◌∙◌}
use Rattle.clause_store.specs.Units.{lit_value}
use Rattle.clause_store.proofs.IdleLemmas.{lengthens_then}
use Rattle.clause_store.proofs.StatusLemmas.{drop-at}
use Rattle.clause_store.proofs.TraceLemmas.{keeps-then, looked-free}
use Rattle.clause_store.proofs.AssumeLemmas.{is_undoable_then}
use Rattle.clause_store.proofs.rup.trace.list_units.Goals as goal
use Rattle.clause_store.proofs.rup.trace.list_units.Goals.{in-None, in-Some-false+in_ok-list_unit-in-Some-false}

pub loop-lit-preserved : goal.loop-lit-preserved
loop-lit-preserved c =
    let us = c.loop-lit.units in let m = c.lit-item.result in let inv = c.loop-lit.invariant in
    let cut = drop-at _ _ m c.loop-lit-test.true c.lit-item.is in
    let before = sym (simp (cut)) ∙ inv.listed in
    elim c.match-lit_value.branch [
      | in-Some-false+in_ok-list_unit-in-Some-false w ↦ rw (w.units-is, w.trail-is, w.trace-is) (record {
        listed = sym (w.in_ok-list_unit-in-Some-false.ensures.listed _) ∙ before;
        kept = keeps-then _ us _ inv.kept w.list_unit.ensures.kept;
        true_lits = cc;
        lengthens = lengthens_then _ _ _ _ _ _ _ _ _ inv.lengthens w.in_ok-list_unit-in-Some-false.ensures.lengthens;
        undoable = is_undoable_then _ _ _ _ _ _ inv.undoable w.list_unit.ensures.undoable;
      })
      | in-None w ↦
          let value : lit_value us m ≡ None = cc in
          rw (w.units-is, w.trail-is, w.trace-is) (record {
            listed = cc (looked-free _ us m _ value);
            kept = inv.kept;
            true_lits = inv.true_lits;
            lengthens = inv.lengthens;
            undoable = inv.undoable;
          })
    ]
