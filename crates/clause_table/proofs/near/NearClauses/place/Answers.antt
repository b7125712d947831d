use Rattle.std.proofs.Common.{◌≡◌, arith, get_or, rules}
use Rattle.clause_table.proofs.PlaceLemmas.{place-within}
use Rattle.clause_table.proofs.near.NearClauses.place.Goals as goal

pub returns-clause-within : goal.returns-clause-within
returns-clause-within c w =
    let x = c.args.self.now in
    let at : c.unwrap_or.result ≡ get_or x.places.items c.args.id 0 = search rules in
    rw at (place-within x.lits.items 0 x.places.items x.rising c.args.id (omega (arith, at, w)))
