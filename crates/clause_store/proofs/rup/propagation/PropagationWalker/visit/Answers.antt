use Rattle.std.proofs.Common.{ap, refl, ◌∙◌}
use Rattle.clause_store.specs.Rup.{status_of, true_lits}
use Rattle.clause_store.specs.Units.{AreKnown}
use Rattle.clause_store.specs.View.{stored_of}
use Rattle.clause_store.specs.Lits.{lits_of}
use Rattle.clause_store.proofs.IdleLemmas.{lengthens_then_longer}
use Rattle.clause_store.proofs.TraceLemmas.{is_looked, lists-falsified, lists-idle, lists-unit}
use Rattle.clause_store.proofs.StatusLemmas.{unit-added, unit-known, unit-step}
use Rattle.clause_store.proofs.rup.propagation.PropagationWalker.visit.Goals as goal

pub overwrite-requires-clause-known : goal.overwrite-requires-clause-known
overwrite-requires-clause-known c =
    let status = c.in-Unit.ensures ∙ ap (status_of (true_lits c.args.units.now)) c.slice-lits.ensures in
    unit-known c.args.units.now _ c.in-Unit.lit _ (rw c.list_units.ensures.undoable.known c.requires.known) status

pub returns-in_ok-push-in-Falsified-clause-listed : goal.returns-in_ok-push-in-Falsified-clause-listed
returns-in_ok-push-in-Falsified-clause-listed c =
    let e = stored_of c.args.buffer.now c.args.clause.now in
    let seen = is_looked _ _ _ _ e _ _ c.slice-lits.ensures c.in-Falsified.ensures
    c.in_ok-list_units.ensures.listed c.list_units.ensures.kept c.list_units.ensures.true_lits in
    lists-falsified _ _ _ _ _ e seen c.in_ok-push-in-Falsified.ensures.items

pub returns-in_ok-overwrite-in-Unit-clause-ok : goal.returns-in_ok-overwrite-in-Unit-clause-ok
returns-in_ok-overwrite-in-Unit-clause-ok c =
    let status = c.in-Unit.ensures ∙ ap (status_of (true_lits c.args.units.now)) c.slice-lits.ensures in
    let known : AreKnown c.list_units.new.units (lits_of c.args.clause.now.lits c.args.buffer.now) = rw c.list_units.ensures.undoable.known c.requires.known in
    unit-step _ _ _ _ status
    (unit-added _ _ _ _ _ _ known status c.list_units.ensures.true_lits
    c.is_positive.ensures c.in_ok-overwrite-in-Unit.ensures.ok)

pub returns-in_ok-overwrite-in-Unit-clause-listed : goal.returns-in_ok-overwrite-in-Unit-clause-listed
returns-in_ok-overwrite-in-Unit-clause-listed c =
    let e = stored_of c.args.buffer.now c.args.clause.now in
    let status = c.in-Unit.ensures ∙ ap (status_of (true_lits c.args.units.now)) c.slice-lits.ensures in
    let known : AreKnown c.list_units.new.units (lits_of c.args.clause.now.lits c.args.buffer.now) = rw c.list_units.ensures.undoable.known c.requires.known in
    let seen = is_looked _ _ _ _ e _ _ c.slice-lits.ensures c.in-Unit.ensures
    c.in_ok-list_units.ensures.listed c.list_units.ensures.kept c.list_units.ensures.true_lits in
    let added = unit-added _ _ _ _ _ _ known status c.list_units.ensures.true_lits c.is_positive.ensures c.in_ok-overwrite-in-Unit.ensures.ok in
    lists-unit _ _ _ _ _ _ e _ _ known seen c.in_ok-push-in-Unit.ensures.items refl added c.in_ok-overwrite-in-Unit.ensures.ok

pub returns-in-Idle-clause-listed : goal.returns-in-Idle-clause-listed
returns-in-Idle-clause-listed c =
    let e = stored_of c.args.buffer.now c.args.clause.now in
    lists-idle _ _ _ _ e (is_looked _ _ _ _ e _ _ c.slice-lits.ensures c.in-Idle.ensures
    c.in_ok-list_units.ensures.listed c.list_units.ensures.kept c.list_units.ensures.true_lits)

pub clause_status-status-requires : goal.clause_status-status-requires
clause_status-status-requires c = rw c.slice-lits.ensures c.requires.known

pub returns-in_ok-overwrite-in-Unit-clause-lengthens : goal.returns-in_ok-overwrite-in-Unit-clause-lengthens
returns-in_ok-overwrite-in-Unit-clause-lengthens c = λ _.
    lengthens_then_longer _ _ _ _ _ _ _ _ _ c.in_ok-list_units.ensures.lengthens c.in_ok-overwrite-in-Unit.ensures.longer
