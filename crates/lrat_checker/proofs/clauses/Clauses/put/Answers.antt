use Rattle.std.proofs.Common.{Some, ap, cond, eqb, ◌∙◌}
use Rattle.clause_table.specs.Named.{clause_of}
use Rattle.lrat_rules.specs.Tables.{put}
use Rattle.lrat_checker.proofs.HeldLemmas.{put_either}
use Rattle.lrat_checker.proofs.clauses.Clauses.put.Goals as goal

pub returns-clause-table : goal.returns-clause-table
returns-clause-table c free =
    let x = c.count_before.new.self in
    let y = c.count_one.new.self in
    let z = c.put.new.self in
    let i = c.args.id in
    let clause = c.args.clause.now in
    put_either (clause_of x.named) (clause_of z) i x.counts y.counts clause
    (λ k. c.in_ok-put.ensures.put k ∙ ap (λ n. cond (eqb k i) (Some clause) (clause_of n k)) c.count_one.ensures.named) x.end y.end x.is_counted y.is_counted
    c.count_one.ensures.mode c.in_ok-count_one.ensures.counts c.in_ok-count_one.ensures.end (ap (λ n. clause_of n i) c.count_before.ensures.named ∙ free) x.within
    ∙ ap (put i clause) c.in_ok-count_before.ensures.table
