use Rattle.std.proofs.Common.{◌≤◌, arith, refl}
use Rattle.clause_store.proofs.StoreLemmas.{is_store-units}
use Rattle.clause_store.proofs.clauses.Clauses.take_id.Goals as goal

pub returns-clause-store : goal.returns-clause-store
returns-clause-store c h s =
    let cs = c.args.self.now in
    let later : cs.next_clause_id ≤ c.in_ok-self.field-0 = omega arith in
    is_store-units h cs _ _ _ later s.units refl s
