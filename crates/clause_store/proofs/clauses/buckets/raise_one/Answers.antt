use Rattle.std.proofs.Common.{◌<◌, ◌∷◌, [], sym, subst, ◌∙◌}
use Rattle.checker_rules.specs.Store.{count_limit}
use Rattle.clause_store.specs.View.{stored_of}
use Rattle.clause_store.proofs.BucketLemmas.{absent-one, count_limit-some}
use Rattle.clause_store.proofs.FoundLemmas.{count_of-absent}
use Rattle.clause_store.proofs.clauses.buckets.raise_one.Goals as goal

pub returns-then-not-has_lits-clause-room : goal.returns-then-not-has_lits-clause-room
returns-then-not-has_lits-clause-room c =
    let d = c.args.clause.now in let b = c.args.buffer.now in let ls = c.args.lits.now in
    subst (λ n. n < count_limit) (sym (count_of-absent ls c.args.redundant (stored_of b d ∷ []) (absent-one b ls d (sym c.has_lits.ensures ∙ c.if-not-has_lits.true)))) count_limit-some
