use Rattle.std.proofs.Common.{ap, ◌∙◌}
use Rattle.clause_table.specs.Named.{clause_of}
use Rattle.lrat_checker.proofs.HeldLemmas.{count_kept}
use Rattle.lrat_checker.proofs.clauses.Clauses.count.Goals as goal

pub returns-clause-count : goal.returns-clause-count
returns-clause-count c =
    let x = c.count_all.new.self in
    c.get.ensures ∙ count_kept (clause_of x.named) x.end x.counts x.is_counted c.args.lit c.in_ok-count_all.ensures.counted
    ∙ ap (λ t. t.counts c.args.lit) c.in_ok-count_all.ensures.table
