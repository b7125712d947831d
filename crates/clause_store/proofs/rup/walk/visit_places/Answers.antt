use Rattle.std.proofs.Common.{◌≡◌, true, false, get_or, Some, sym, ◌∙◌}
use Rattle.std.proofs.Math.ListN.{drop_of_length-le}
use Rattle.clause_store.specs.Lits.{IsWithin, lits_of}
use Rattle.clause_store.specs.Units.{AreKnown}
use Rattle.clause_store.proofs.IdleLemmas.{lengthens_then}
use Rattle.clause_store.proofs.CrowdLemmas.{place-all, place-falsified, place-free, place-listed, place-walked}
use Rattle.clause_store.proofs.AssumeLemmas.{is_undoable_then}
use Rattle.clause_store.proofs.rup.walk.visit_places.Goals as goal

pub visit-requires-clause-within : goal.visit-requires-clause-within
visit-requires-clause-within g c =
    place-all c.args.buffer.now _ _ _ c.loop-place-test.true _ (sym c.place-item.is ∙ c.in-Some.is) (λ e. IsWithin e.lits c.args.buffer.now) c.requires.within

pub visit-requires-clause-known : goal.visit-requires-clause-known
visit-requires-clause-known g c =
    rw c.loop-place.invariant.undoable.known (place-all c.args.buffer.now _ _ _ c.loop-place-test.true _ (sym c.place-item.is ∙ c.in-Some.is)
    (λ e. AreKnown c.args.units.now (lits_of e.lits c.args.buffer.now)) c.requires.known)

pub loop-place-preserved : goal.loop-place-preserved
loop-place-preserved g c =
    let is : get_or c.args.places.now c.loop-place.place-index c.place-item.result ≡ Some c.in-Some.clause = sym c.place-item.is ∙ c.in-Some.is in
    let v = c.loop-place.invariant in let given = c.in_ok-visit.ensures in let longer = given.lengthens c.if-branch.false in
    record {
      same = place-walked c.args.buffer.now c.args.places.now c.loop-place.place-index _ c.loop-place-test.true c.in-Some.clause is
          c.loop-place.units c.visit.new.units _ (rw c.if-branch.false at given.ok) v.same;
      listed = λ rest. sym (place-listed c.args.buffer.now c.args.places.now c.loop-place.place-index _ c.loop-place-test.true c.in-Some.clause is
          g.W.Walker.after (g.W.Walker.ids c.loop-place.walker) (g.W.Walker.ids c.visit.new.self) c.loop-place.units c.visit.new.units rest false (rw c.if-branch.false at given.listed)) ∙ v.listed rest;
      lengthens = lengthens_then _ _ _ _ _ _ _ _ _ v.lengthens longer;
      undoable = is_undoable_then _ _ _ _ _ _ v.undoable c.visit.ensures.undoable;
    }

pub loop-place-preserved-in_default : goal.loop-place-preserved-in_default
loop-place-preserved-in_default g c =
    rw (← place-free c.args.buffer.now c.args.places.now c.loop-place.place-index _ c.loop-place-test.true (sym c.place-item.is ∙ c.in_default.is)) c.loop-place.invariant

pub returns-then-branch-clause-ok : goal.returns-then-branch-clause-ok
returns-then-branch-clause-ok g c =
    place-falsified _ _ _ _ c.loop-place-test.true _ (sym c.place-item.is ∙ c.in-Some.is) _ c.visit.new.units _ (rw c.if-branch.true at c.in_ok-visit.ensures.ok) c.loop-place.invariant.same

pub returns-then-branch-clause-listed : goal.returns-then-branch-clause-listed
returns-then-branch-clause-listed g c rest =
    let is : get_or c.args.places.now c.loop-place.place-index c.place-item.result ≡ Some c.in-Some.clause = sym c.place-item.is ∙ c.in-Some.is in
    sym (c.loop-place.invariant.listed rest) ∙ place-listed c.args.buffer.now c.args.places.now c.loop-place.place-index _ c.loop-place-test.true c.in-Some.clause is
    g.W.Walker.after (g.W.Walker.ids c.loop-place.walker) (g.W.Walker.ids c.visit.new.self) c.loop-place.units c.visit.new.units rest true (rw c.if-branch.true at c.in_ok-visit.ensures.listed)

pub returns-clause-ok : goal.returns-clause-ok
returns-clause-ok g c = sym (rw (drop_of_length-le c.args.places.now c.loop-place-test.false) at c.loop-place.invariant.same)

pub returns-clause-listed : goal.returns-clause-listed
returns-clause-listed g c rest = sym (rw (drop_of_length-le c.args.places.now c.loop-place-test.false) at (c.loop-place.invariant.listed rest))
