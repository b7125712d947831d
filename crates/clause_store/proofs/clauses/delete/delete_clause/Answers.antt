use Rattle.std.proofs.Common.{◌≡◌, List, length, map, subst, arith}
use Rattle.checker_rules.specs.Buckets.{remaining}
use Rattle.checker_rules.specs.State.{Stored}
use Rattle.checker_rules.specs.Store.{lower}
use Rattle.clause_store.specs.declared.clauses.Clauses.{Clauses}
use Rattle.clause_store.specs.Counts.{AreCounts}
use Rattle.clause_store.specs.Lowered.{IsMissing}
use Rattle.clause_store.specs.View.{stored_list}
use Rattle.clause_store.proofs.DeleteLemmas.{both_rest, delete-no_copy, delete-unknown, deletes, state-unchanged, store-rest, store-unchanged}
use Rattle.clause_store.proofs.EditLemmas.{stored_list-is}
use Rattle.clause_store.proofs.AnswerLemmas.{long_is}
use Rattle.clause_store.proofs.clauses.delete.delete_clause.Goals as goal

-- the counts are those of what is left
counts_after : (cs taken after : Clauses) (es rest : List Stored) → after.unit_clauses ≡ cs.unit_clauses →
    after.lit_counts ≡ taken.lit_counts → es ≡ rest → AreCounts taken.lit_counts (length cs.unit_clauses) rest →
    AreCounts after.lit_counts (length after.unit_clauses) es
counts_after cs taken after es rest units counts same a = subst (AreCounts after.lit_counts (length after.unit_clauses)) (cc)
    (subst (λ us. AreCounts after.lit_counts (length us) rest) (cc) (subst (λ n. AreCounts n (length cs.unit_clauses) rest) (cc) a))

pub collect_garbage-requires : goal.collect_garbage-requires
collect_garbage-requires c =
    let h = c.args.hasher.now in let taken = c.take_copy.new.clauses in let es = remaining (map (lower c.args.redundant c.args.lits.now) (stored_list c.args.clauses.now)) in
    rw (stored_list-is h taken es c.in-Ok.ensures.filed) c.in-Ok.ensures.filed

pub returns-in-Ok-collect_garbage-clause-answer : goal.returns-in-Ok-collect_garbage-clause-answer
returns-in-Ok-collect_garbage-clause-answer c st known =
    let h = c.args.hasher.now in let cs = c.args.clauses.now in let ls = c.args.lits.now in let r = c.args.redundant in let after = c.collect_garbage.new.clauses in
    let p = c.in-Ok.ensures in let q = c.in-Ok-collect_garbage.ensures in
    rw c.deleted_as.ensures (deletes h cs r ls (long_is ls (omega arith)) st known c.take_copy.new.clauses after c.in-Ok.left p.left p.filed p.rest q.filed q.rest)

pub returns-in-Ok-collect_garbage-clause-store : goal.returns-in-Ok-collect_garbage-clause-store
returns-in-Ok-collect_garbage-clause-store c =
    let h = c.args.hasher.now in let cs = c.args.clauses.now in let taken = c.take_copy.new.clauses in let after = c.collect_garbage.new.clauses in
    let p = c.in-Ok.ensures in let q = c.in-Ok-collect_garbage.ensures in
    store-rest h cs _ _ q.filed q.garbage (both_rest cs taken _ p.rest q.rest)
    (counts_after cs taken after _ (remaining (map (lower c.args.redundant c.args.lits.now) (stored_list cs)))
    (both_rest cs taken after p.rest q.rest).units q.counts
    (stored_list-is h taken (remaining (map (lower c.args.redundant c.args.lits.now) (stored_list cs))) p.filed) p.counts)
    c.requires.store

pub returns-in-Err-Clause-clause-answer : goal.returns-in-Err-Clause-clause-answer
returns-in-Err-Clause-clause-answer c st known =
    let h = c.args.hasher.now in let cs = c.args.clauses.now in let ls = c.args.lits.now in let r = c.args.redundant in let p = c.in-Err-Clause.ensures in
    let long = long_is ls (omega arith) in let missing = subst (IsMissing r ls (stored_list cs)) c.in-Err-Clause.field-0-is p.missing in
    (delete-unknown r ls _ long missing, state-unchanged h cs st _ _ p.still_filed p.others)

pub returns-in-Err-Clause-clause-store : goal.returns-in-Err-Clause-clause-store
returns-in-Err-Clause-clause-store c =
    let h = c.args.hasher.now in let cs = c.args.clauses.now in let p = c.in-Err-Clause.ensures in
    store-unchanged h cs _ p.still_filed p.others c.requires.store

pub returns-in-Err-Copy-clause-answer : goal.returns-in-Err-Copy-clause-answer
returns-in-Err-Copy-clause-answer c st known =
    let h = c.args.hasher.now in let cs = c.args.clauses.now in let ls = c.args.lits.now in let r = c.args.redundant in let p = c.in-Err-Copy.ensures in
    let long = long_is ls (omega arith) in let missing = subst (IsMissing r ls (stored_list cs)) c.in-Err-Copy.field-0-is p.missing in
    (delete-no_copy r ls _ long missing.0 missing.1, state-unchanged h cs st _ _ p.still_filed p.others)

pub returns-in-Err-Copy-clause-store : goal.returns-in-Err-Copy-clause-store
returns-in-Err-Copy-clause-store c =
    let h = c.args.hasher.now in let cs = c.args.clauses.now in let p = c.in-Err-Copy.ensures in
    store-unchanged h cs _ p.still_filed p.others c.requires.store
