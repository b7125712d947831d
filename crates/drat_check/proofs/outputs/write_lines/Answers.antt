use Rattle.std.proofs.Common.{false, refl}
use Rattle.lrat_text.specs.NextLine.{view}
use Rattle.drat_check.specs.Outputs.{bytes_in}
use Rattle.drat_check.proofs.WrittenLines.{appends_wanted, began, began_line, began_none, began_steps, begins_wanted, none_yet, one_more, written}
use Rattle.drat_check.proofs.outputs.write_lines.Goals as goal

pub returns-in-Err-clause-beginning : goal.returns-in-Err-clause-beginning
returns-in-Err-clause-beginning g c = began_none

pub returns-then-refuted-clause-whole : goal.returns-then-refuted-clause-whole
returns-then-refuted-clause-whole g c = written c.lines.invariant

pub lines-init : goal.lines-init
lines-init g c =
    none_yet c.args.form c.args.formula.now (bytes_in g.L.Write.contents c.args.lrat.now) (bytes_in g.L.Write.contents c.args.trim.now)
    c.in-Ok.checker c.len-last.result false c.in-Ok.ensures.ready c.len-last.ensures refl

pub returns-in-Err-steps_of-clause-beginning : goal.returns-in-Err-steps_of-clause-beginning
returns-in-Err-steps_of-clause-beginning g c = began c.lines.invariant

pub returns-in-Err-check_line-clause-beginning : goal.returns-in-Err-check_line-clause-beginning
returns-in-Err-check_line-clause-beginning g c = began c.lines.invariant

pub returns-in-Err-write_accepted-clause-beginning : goal.returns-in-Err-write_accepted-clause-beginning
returns-in-Err-write_accepted-clause-beginning g c =
    let so_far = c.lines.invariant in
    began_line c.args.form c.args.formula.now _ _ _ _ _ (bytes_in g.L.Write.contents c.lines.trim) c.lines.checker c.check_line.new.self c.lines.last c.lines.has_begun
    (view c.in-Ok-Some.entry) so_far (c.in_default.ensures.accepted c.args.formula.now so_far.lines so_far.ready) c.in-Err-write_accepted.ensures.beginning

pub returns-in-Err-write_steps-clause-beginning : goal.returns-in-Err-write_steps-clause-beginning
returns-in-Err-write_steps-clause-beginning g c =
    let so_far = c.lines.invariant in
    began_steps c.args.form c.args.formula.now _ _ _ _ _ _ c.lines.checker c.check_line.new.self c.lines.last c.lines.has_begun (view c.in-Ok-Some.entry) so_far
    (c.in_default.ensures.accepted c.args.formula.now so_far.lines so_far.ready) c.in_default-write_accepted.ensures.whole
    (begins_wanted g.L.Write.contents c.lines.trim c.write_steps.new.trim c.in-Ok-steps_of.steps.items _
    (c.in-Ok-steps_of.ensures c.args.formula.now so_far.lines so_far.ready)
    (rw c.deref.ensures.value at c.in-Err-write_steps.ensures.beginning))

pub returns-in-Ok-None-clause-whole : goal.returns-in-Ok-None-clause-whole
returns-in-Ok-None-clause-whole g c = written c.lines.invariant

pub returns-in-Err-next_line-clause-beginning : goal.returns-in-Err-next_line-clause-beginning
returns-in-Err-next_line-clause-beginning g c = began c.lines.invariant

pub lines-preserved : goal.lines-preserved
lines-preserved g c =
    let so_far = c.lines.invariant in
    one_more c.args.form c.args.formula.now _ _ _ _ _ _ c.lines.checker c.check_line.new.self c.lines.last c.lines.has_begun (view c.in-Ok-Some.entry) so_far
    c.number_after-last.result c.begun_by-has_begun.result
    (c.in_default.ensures.accepted c.args.formula.now so_far.lines so_far.ready) c.in_default-write_accepted.ensures.whole
    (appends_wanted g.L.Write.contents c.lines.trim c.write_steps.new.trim c.in-Ok-steps_of.steps.items _
    (c.in-Ok-steps_of.ensures c.args.formula.now so_far.lines so_far.ready)
    (rw c.deref.ensures.value at c.in_default-write_steps.ensures.whole))
    c.number_after-last.ensures c.begun_by-has_begun.ensures

pub returns-clause-beginning : goal.returns-clause-beginning
returns-clause-beginning g c = began c.lines.invariant
