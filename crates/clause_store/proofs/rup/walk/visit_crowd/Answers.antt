use Rattle.std.proofs.Common.{All, length, sym, subst}
use Rattle.clause_store.specs.Idle.{IsIdleRun, IsIdleSince}
use Rattle.clause_store.specs.Lits.{IsWithin, lits_of}
use Rattle.clause_store.specs.Units.{AreKnown}
use Rattle.clause_store.specs.View.{stored_in}
use Rattle.clause_store.proofs.IdleLemmas.{are_idle-noted, are_idle-walked, is_idle_since-walked}
use Rattle.clause_store.proofs.rup.walk.visit_crowd.Goals as goal

pub visit_places-requires-clause-within : goal.visit_places-requires-clause-within
visit_places-requires-clause-within g c = subst (All (λ e. IsWithin e.lits c.args.buffer.now)) c.requires.is (c.requires.within c.args.hash)

pub visit_places-requires-clause-known : goal.visit_places-requires-clause-known
visit_places-requires-clause-known g c = subst (All (λ e. AreKnown c.args.units.now (lits_of e.lits c.args.buffer.now))) c.requires.is (c.requires.known c.args.hash)

pub returns-else-is_long-2-clause-idle : goal.returns-else-is_long-2-clause-idle
returns-else-is_long-2-clause-idle g c = λ _.
    are_idle-walked g.W.Walker.after _ _ _ _ _ _ _ _ c.args.buckets.now (c.in_ok-visit_places.ensures.lengthens c.if-branch.false) c.requires.idle

pub returns-then-trail_len-given-clause-idle : goal.returns-then-trail_len-given-clause-idle
returns-then-trail_len-given-clause-idle g c = λ _.
    let vs = c.visit_places.new.units in let now = g.W.Walker.ids c.visit_places.new.walker in let trail = g.W.Walker.written c.visit_places.new.walker in
    let buffer = c.args.buffer.now in let buckets = c.args.buckets.now in
    let lengthens = c.in_ok-visit_places.ensures.lengthens c.if-branch.false in
    let walked = is_idle_since-walked g.W.Walker.after _ now _ vs _ _ _ _ buckets c.args.hash _ c.requires.is lengthens
    c.if-branch.false c.in_ok-visit_places.ensures.ok c.in_ok-visit_places.ensures.listed in
    let here = subst (λ n. IsIdleSince n (length trail) (IsIdleRun g.W.Walker.after now vs (stored_in buffer buckets c.args.hash)))
    (sym c.trail_len-given.ensures) walked in
    are_idle-noted _ _ _ _ _ _
    (λ h. IsIdleRun g.W.Walker.after now vs (stored_in buffer buckets h)) c.add-refused.ensures.ok c.add-refused.ensures.err here
    (are_idle-walked g.W.Walker.after _ _ _ _ _ _ _ _ buckets lengthens c.requires.idle)
