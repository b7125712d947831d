use Rattle.std.proofs.Common.{sym, ap, ◌∙◌}
use mathlib.Core.Path.{fun_ext}
use Rattle.std.proofs.lemmas.List.{at_drop_all}
use Rattle.lrat_rules.specs.Tables.{drop_all}
use Rattle.lrat_checker.specs.Held.{table_by, table_of}
use Rattle.lrat_checker.proofs.clauses.Clauses.remove.Goals as goal

pub returns-clause-table : goal.returns-clause-table
returns-clause-table c =
    let x = c.loop-id.self in
    ap (λ f. table_by f x.end x.counts x.is_counted) (fun_ext c.collect_garbage.ensures.same)
    ∙ sym (at_drop_all (λ is. drop_all is (table_of x)) c.args.ids.now c.loop-id.id-index c.loop-id-test.false) ∙ c.loop-id.invariant.table
