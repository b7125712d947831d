use Rattle.std.proofs.Common.{◌≡◌, ◌-◌, ◌<◌, ◌∙◌, ap, arith, get_or}
use Rattle.std.proofs.lemmas.List.{get_or_read}
use Rattle.clause_table.specs.Places.{len_at}
use Rattle.clause_table.proofs.PlaceLemmas.{cleared-in_use, placed-below, rising-clear}
use Rattle.clause_table.proofs.near.NearClauses.remove.Goals as goal

pub invariant_of-self : goal.invariant_of-self
invariant_of-self c =
    let x = c.args.self.now in
    let len : c.code.result ≡ len_at x.lits.items c.place-place.result =
    c.code.ensures.value ∙ get_or_read x.lits.items (c.place-place.result - 1) c.index.result.now (omega (arith, c.place-place.ensures.within c.if-place-gt0.true)) c.index.ensures 0 in
    let here : c.code.result ≡ len_at x.lits.items (get_or x.places.items c.args.id 0) = len ∙ ap (len_at x.lits.items) c.place-place.ensures.value in
    let some : 0 < get_or x.places.items c.args.id 0 = omega (arith, c.place-place.ensures.value) in
    record {
      rising = rising-clear x.lits.items 0 x.places.items x.rising c.args.id;
      counted = omega (arith, here, cleared-in_use x.lits.items x.places.items c.args.id (placed-below x.places.items c.args.id some) some, x.counted);
    }
