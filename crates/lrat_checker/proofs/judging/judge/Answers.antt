use Rattle.std.proofs.Common.{rules, map, sym, ap, ◌∙◌}
use Rattle.lrat_rules.specs.Propagation.{conflict, open_at, stuck}
use Rattle.lrat_checker.specs.Causes.{cause_of}
use Rattle.lrat_checker.specs.Held.{table_of}
use Rattle.lrat_checker.specs.Propagating.{ending_of}
use Rattle.clause_table.specs.Values.{among}
use Rattle.lrat_text.specs.Grammar.{hint_of}
use Rattle.lrat_checker.proofs.JudgeLemmas.{judged}
use Rattle.lrat_checker.proofs.judging.judge.Goals as goal

pub returns-in-Conflict-clause-ok : goal.returns-in-Conflict-clause-ok
returns-in-Conflict-clause-ok c =
    judged (table_of c.args.clauses.now) c.args.id c.args.clause.now (map hint_of c.args.hints.now) (among c.negate_alone.new.self) conflict (sym c.contains.ensures ∙ c.if-contains.false)
    c.in_ok-negate_alone.ensures
    (ap (λ x. ending_of x (among c.propagate.new.values)) (sym c.in-Conflict.is) ∙ c.in_ok-propagate.ensures.ending)

pub returns-in-Stuck-clause-err : goal.returns-in-Stuck-clause-err
returns-in-Stuck-clause-err c =
    judged (table_of c.args.clauses.now) c.args.id c.args.clause.now (map hint_of c.args.hints.now) (among c.negate_alone.new.self)
    (stuck (cause_of c.in-Stuck.cause)) (sym c.contains.ensures ∙ c.if-contains.false)
    c.in_ok-negate_alone.ensures
    (ap (λ x. ending_of x (among c.propagate.new.values)) (sym c.in-Stuck.is) ∙ c.in_ok-propagate.ensures.ending)

pub returns-in-Open : goal.returns-in-Open
returns-in-Open c =
    let found = judged (table_of c.args.clauses.now) c.args.id c.args.clause.now (map hint_of c.args.hints.now) (among c.negate_alone.new.self)
    (open_at (among c.propagate.new.values)) (sym c.contains.ensures ∙ c.if-contains.false)
    c.in_ok-negate_alone.ensures
    (ap (λ x. ending_of x (among c.propagate.new.values)) (sym c.in-Open.is) ∙ c.in_ok-propagate.ensures.ending) in
    record {
      ok = rw found c.check_groups.ensures.ok;
      taken = search rules;
      err = rw found c.check_groups.ensures.err;
      table = c.check_groups.ensures.table;
      named = c.check_groups.ensures.named;
    }
