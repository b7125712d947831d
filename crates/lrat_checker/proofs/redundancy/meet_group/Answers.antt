use Rattle.std.proofs.Common.{◌+◌, sym, ap, ◌∙◌}
use Rattle.std.proofs.lemmas.Bool.{ne_eqb}
use Rattle.lrat_rules.specs.Tables.{add_id, met_by_groups}
use Rattle.lrat_checker.specs.Grouping.{group_of}
use Rattle.lrat_checker.specs.Held.{seen_by, table_of}
use Rattle.clause_table.specs.Values.{among}
use Rattle.lrat_checker.proofs.JudgeLemmas.{group_met}
use Rattle.lrat_checker.proofs.redundancy.meet_group.Goals as goal

pub returns-clause-ok : goal.returns-clause-ok
returns-clause-ok c met gs =
    let f = (table_of c.args.clauses.now).named in
    let s = among c.args.work.now.values in
    let n = c.args.lit in
    let seen = seen_by c.args.work.now in
    let g = group_of c.args.group in
    let d = c.in-Some.clause.now in
    group_met f s n seen met g gs d (sym c.has.ensures ∙ c.if-has.false) (sym c.in-Some.ensures) (ne_eqb _ 0 (λ k. c.if-count-eq0.false (c.count_of-count.ensures ∙ k)))
    (sym c.in_ok-is_met.ensures.met ∙ c.if-not-branch.false)
    ∙ ap (λ k. met_by_groups f s n (add_id g.id seen) (met + k) gs) (sym c.count_of-count.ensures)
    ∙ ap (λ z. met_by_groups f s n z (met + c.count_of-count.result) gs) (sym c.in_ok-insert.ensures.met)
