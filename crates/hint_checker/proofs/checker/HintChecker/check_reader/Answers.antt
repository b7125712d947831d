use Rattle.std.proofs.Common.{Err, false, refl, sym, ap, ◌∙◌, subst}
use Rattle.lrat_binary.specs.TakenLines.{TakesLines}
use Rattle.lrat_binary.specs.declared.ids.LratForm.{LratForm}
use Rattle.lrat_binary.proofs.GivenLines.{fresh_at}
use Rattle.hint_checker.specs.Held.{holds}
use Rattle.hint_checker.specs.Taken.{HasRejected, HasTaken}
use Rattle.hint_checker.specs.declared.checker.HintChecker.{HintChecker}
use Rattle.hint_checker.proofs.CheckLemmas.{yes_refutes}
use Rattle.hint_checker.proofs.StreamLemmas.{text_accepted, text_refused}
use Rattle.hint_checker.proofs.checker.HintChecker.check_reader.Goals as goal

pub take_lines-requires : goal.take_lines-requires
take_lines-requires g c = record { fresh = record { leads = λ h e. (h, refl, e); small = λ s. s } }

pub returns-in-Ok-clause-accepted : goal.returns-in-Ok-clause-accepted
returns-in-Ok-clause-accepted g c = λ h e.
    let known = g.R.Read.remaining c.args.input in
    let r = c.new-reader.ensures in
    let t = c.in-Ok.ensures known (fresh_at r.bytes r.line r.ended r.counted) in
    text_accepted known h c.args.self.now c.take_lines.new.sink e (rw r.form at t) c.added_empty.result c.added_empty.ensures

pub returns-in-Ok-clause-refutes : goal.returns-in-Ok-clause-refutes
returns-in-Ok-clause-refutes g c = λ formula lines h e f y.
    let found = returns-in-Ok-clause-accepted g c h e in
    yes_refutes formula lines h found.text found.held f found.accepts (sym found.answer ∙ y)

pub returns-in-Ok-clause-small : goal.returns-in-Ok-clause-small
returns-in-Ok-clause-small g c = λ s.
    let known = g.R.Read.remaining c.args.input in
    let r = c.new-reader.ensures in
    let t = c.in-Ok.ensures known (fresh_at r.bytes r.line r.ended r.counted) in
    t.1.small s

pub returns-clause-refused : goal.returns-clause-refused
returns-clause-refused g c = λ h e.
    let known = g.R.Read.remaining c.args.input in
    let first = c.args.self.now in
    let r = c.new-reader.ensures in
    let t = subst (λ (i : LratForm). TakesLines i known (λ (x : HintChecker). false) (HasTaken first) (HasRejected first) c.take_lines.new.sink (Err c.in-Err.untaken)) r.form
    (c.in-Err.ensures known (fresh_at r.bytes r.line r.ended r.counted)) in
    (rw c.from.ensures (text_refused known h first c.take_lines.new.sink e c.in-Err.untaken t), ap holds c.fail.ensures)
