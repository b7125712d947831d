use Rattle.std.proofs.Common.{Some, arith}
use Rattle.clause_store.specs.Lits.{IsWithin}
use Rattle.clause_store.proofs.CrowdLemmas.{All-stands, place-is}
use Rattle.clause_store.proofs.clauses.places.clause_at.Goals as goal

pub has_lits-requires : goal.has_lits-requires
has_lits-requires c =
    let ps = c.args.places.now in let i = c.args.at in let d = c.in-Some.clause in
    All-stands (λ e. IsWithin e.lits c.args.buffer.now) ps i d c.requires (omega arith) (place-is ps i _ (Some d) (omega arith) c.in-Some.is)
