use Rattle.std.proofs.Common.{None, ap, cond, eqb, ◌∙◌}
use Rattle.clause_table.specs.Named.{clause_of}
use Rattle.lrat_checker.specs.Held.{table_by}
use Rattle.lrat_checker.proofs.HeldLemmas.{drop_either}
use Rattle.lrat_checker.proofs.clauses.Clauses.remove_one.Goals as goal

pub returns-clause-table : goal.returns-clause-table
returns-clause-table c =
    let x = c.args.self.now in
    let y = c.lower.new.self in
    let z = c.remove.new.self in
    let i = c.args.id in
    ap (λ n. table_by (clause_of z) n y.counts y.is_counted) c.lower.ensures.end
    ∙ drop_either (clause_of x.named) (clause_of z) i x.counts y.counts (λ k. c.remove.ensures.removed k ∙ ap (λ n. cond (eqb k i) None (clause_of n k)) c.lower.ensures.named) x.end
    x.is_counted y.is_counted c.lower.ensures.mode c.lower.ensures.counts x.within
