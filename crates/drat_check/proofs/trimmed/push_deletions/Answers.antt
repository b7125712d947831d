use Rattle.std.proofs.Common.{append_assoc, append-nil}
use Rattle.std.proofs.lemmas.List.{at_drop_all, at_drop_more}
use Rattle.sat_output.specs.DratTexts.{deletions_text}
use Rattle.drat_check.proofs.trimmed.push_deletions.Goals as goal
use Rattle.drat_check.proofs.trimmed.push_deletions.Goals.{in-Some+in_ok-push_deletion, in_default}

pub loop-id-preserved : goal.loop-id-preserved
loop-id-preserved c = λ formula lines ready.
    let next = at_drop_more (deletions_text ready.accepted.store) c.args.ids.now c.loop-id.id-index 0 c.loop-id-test.true in
    let so_far = rw (next, ← c.clause.ensures formula lines ready) at (c.loop-id.invariant formula lines ready) in
    elim c.match-clause.branch [
      | in-Some+in_ok-push_deletion w ↦ rw (w.text-is, w.in_ok-push_deletion.ensures, append_assoc) (rw w.in-Some.is at so_far)
      | in_default w ↦ rw w.text-is (rw w.in_default.is at so_far)
    ]

pub returns : goal.returns
returns c = λ formula lines ready.
    let none = at_drop_all (deletions_text ready.accepted.store) c.args.ids.now c.loop-id.id-index c.loop-id-test.false in
    rw (none, append-nil) at (c.loop-id.invariant formula lines ready)
