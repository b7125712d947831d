use Rattle.std.proofs.Common.{ap, ◌∙◌, rules}
use Rattle.lrat_rules.specs.Tables.{met_by_groups, no_id}
use Rattle.lrat_checker.specs.Held.{table_of}
use Rattle.clause_table.specs.Values.{among}
use Rattle.lrat_checker.proofs.redundancy.meet_groups.Goals as goal

pub loop-group-init : goal.loop-group-init
loop-group-init c =
    let f = (table_of c.args.clauses.now).named in
    let n = c.args.lit in
    record {
      found = ap (λ z. met_by_groups f (among c.args.work.now.values) n z 0 c.into_iter-group-iterator.result) c.forget.ensures
          ∙ ap (met_by_groups f (among c.args.work.now.values) n no_id 0) (c.into_iter-group-iterator.ensures.into_iter_gives ∙ c.of-group-items.ensures);
      values = search rules;
    }
