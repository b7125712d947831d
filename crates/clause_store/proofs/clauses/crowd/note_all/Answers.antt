use Rattle.std.proofs.Common.{Some}
use Rattle.clause_store.specs.Lits.{IsWithin}
use Rattle.clause_store.proofs.CrowdLemmas.{All-stands, place-is}
use Rattle.clause_store.proofs.clauses.crowd.note_all.Goals as goal

pub slice-requires : goal.slice-requires
slice-requires c =
    let ps = c.args.places.now in let i = c.loop-at.at in let d = c.in-Some.clause in
    All-stands (λ e. IsWithin e.lits c.args.buffer.now) ps i d c.requires c.loop-at-test.true (place-is ps i _ (Some d) c.loop-at-test.true c.in-Some.is)
