use Rattle.std.proofs.Common.{◌≡◌, ◌∙◌, arith, rules}
use Rattle.circuit_clauses.specs.Machines.{size_of}
use Rattle.circuit_clauses.proofs.CauseLemmas.{alike, has_places}
use Rattle.circuit_clauses.proofs.places.Places.of.Goals as goal

pub with_counts-requires : goal.with_counts-requires
with_counts-requires c = let a = alike c.args.one.now c.args.other.now c.requires in omega (arith, a.room)

pub returns : goal.returns
returns c =
    let e = c.with_counts.ensures in
    let own : c.len.result ≡ size_of c.args.one.now = search rules in
    let others : c.len-2.result ≡ size_of c.args.other.now = search rules in
    has_places c.args.one.now c.args.other.now c.with_counts.result c.requires (e.0, e.1 ∙ own, omega (arith, e.2, own, others))
