use Rattle.std.proofs.Common.{◌+◌, [], refl, arith}
use Rattle.clause_store.specs.StateOf.{state_of}
use Rattle.clause_store.proofs.AnswerLemmas.{empty-stored}
use Rattle.clause_store.proofs.StoreLemmas.{few-short, is_store-units}
use Rattle.clause_store.proofs.clauses.store.store_empty.Goals as goal

pub returns-clause-answer : goal.returns-clause-answer
returns-clause-answer c h known redundant kept =
    let st = c.args.state.now in let cs = c.args.clauses.now in let s = state_of st h cs known in
    let e = c.in-Some.ensures in
    rw (e.taken, e.id.1) (empty-stored _ s e.id.0 (few-short h cs _ kept.filed _ [] refl))

pub returns-clause-store : goal.returns-clause-store
returns-clause-store c h kept =
    let cs = c.args.clauses.now in
    rw c.in-Some.ensures.taken (is_store-units h cs cs.unit_clauses cs.unit_conflict (cs.next_clause_id + 1) (omega arith) kept.units refl kept)
