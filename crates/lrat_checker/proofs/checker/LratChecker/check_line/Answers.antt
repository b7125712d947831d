use Rattle.std.proofs.Common.{◌||◌, sym, ap, ◌∙◌}
use Rattle.lrat_rules.specs.Lines.{adds_empty, after}
use Rattle.lrat_checker.specs.Held.{table_of}
use Rattle.lrat_checker.proofs.StandLemmas.{answers, ran_more, refutes_more, table_more}
use Rattle.lrat_text.specs.NextLine.{view}
use Rattle.lrat_checker.proofs.checker.LratChecker.check_line.Goals as goal

pub returns-in-Ok-clause-accepted : goal.returns-in-Ok-clause-accepted
returns-in-Ok-clause-accepted c formula lines ready =
    let st = ready.accepted.store in
    let t = table_of c.args.self.now.clauses in
    let l = view c.args.line in
    record {
      accepted = record {
        store = after st l;
        ran = ran_more formula lines st t l ready.accepted.ran ready.table c.in-Ok.ensures.ok;
        refuted = c.in-Ok.ensures.refuted ∙ ap (λ b. b || adds_empty l) ready.accepted.refuted ∙ sym (refutes_more formula lines st t l ready.accepted.ran ready.table c.in-Ok.ensures.ok);
      };
      table = rw c.in-Ok.ensures.table (table_more formula lines st t l ready.accepted.ran ready.table c.in-Ok.ensures.ok);
      going = c.take.ensures.going ∙ c.if-self.false;
    }

pub returns-in-Err-clause-refused : goal.returns-in-Err-clause-refused
returns-in-Err-clause-refused c formula lines ready =
    rw c.fault.ensures
    (answers formula lines ready.accepted.store (table_of c.args.self.now.clauses) (view c.args.line) ready.accepted.ran ready.table c.in-Err.stop c.in-Err.ensures.err)
