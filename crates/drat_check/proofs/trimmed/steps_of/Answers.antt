use Rattle.std.proofs.Common.{Option, Some, None, refl}
use Rattle.drat_check.specs.Outputs.{IfWanted}
use Rattle.drat_check.proofs.trimmed.steps_of.Goals as goal
use Rattle.drat_check.proofs.trimmed.steps_of.Goals.{in-Add+in_ok-push_addition-in-Add, in-Delete+in_ok-push_deletions-in-Delete, in-Delete+else-has_begun}

-- what holds in any case
wanted : {W : Type 0} (w : Option W) (P : Type 0) → P → IfWanted w P
wanted None P p = tt
wanted (Some w) P p = p

pub returns : goal.returns
returns g c = λ formula lines ready. wanted c.args.trim.now _ (elim c.match-line.branch [
  | in-Add+in_ok-push_addition-in-Add w ↦
      rw (w.in-Add.is, w.text-is, w.in_ok-push_addition-in-Add.ensures, c.new-text.ensures.items) refl
  | in-Delete+in_ok-push_deletions-in-Delete w ↦
      rw (w.in-Delete.is, w.if-has_begun.true, w.text-is, w.in_ok-push_deletions-in-Delete.ensures formula lines ready, c.new-text.ensures.items) refl
  | in-Delete+else-has_begun w ↦
      rw (w.in-Delete.is, w.if-has_begun.false, w.text-is, c.new-text.ensures.items) refl
])
