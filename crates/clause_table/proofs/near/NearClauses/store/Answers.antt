use Rattle.std.proofs.Common.{◌∙◌, Some, ap, ap₂, arith, cond, eqb, rules}
use Rattle.std.proofs.lemmas.List.{get_or_past}
use Rattle.clause_table.specs.Places.{lits_at}
use Rattle.clause_table.proofs.PlaceLemmas.{stored}
use Rattle.clause_table.proofs.near.NearClauses.store.Goals as goal

pub invariant_of-self-2 : goal.invariant_of-self-2
invariant_of-self-2 c =
    let x = c.make_place.new.self in
    let after = stored x.lits.items c.args.clause.now c.args.len x.places.items c.args.id c.requires.len x.rising c.in_ok-make_place.ensures.room
    (c.make_place.ensures.same c.args.id ∙ get_or_past c.args.self.now.places.items c.args.id 0 c.requires.greater)
    c.append.new.lits.items c.len-place.result c.in_ok-append.ensures.ok (search rules) in
    record { rising = after.rising; counted = omega (arith, after.used, after.size, x.counted) }

pub returns-clause-ok : goal.returns-clause-ok
returns-clause-ok c k =
    let x = c.make_place.new.self in
    (stored x.lits.items c.args.clause.now c.args.len x.places.items c.args.id c.requires.len x.rising c.in_ok-make_place.ensures.room
    (c.make_place.ensures.same c.args.id ∙ get_or_past c.args.self.now.places.items c.args.id 0 c.requires.greater)
    c.append.new.lits.items c.len-place.result c.in_ok-append.ensures.ok (search rules)).here k
    ∙ ap (cond (eqb k c.args.id) (Some c.args.clause.now)) (ap₂ lits_at c.make_place.ensures.lits (c.make_place.ensures.same k))
