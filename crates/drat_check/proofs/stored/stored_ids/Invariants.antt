use Rattle.std.proofs.Common.{ℕ, List, Option, None}
use Rattle.drat_check.specs.Outputs.{HasWritten, bytes_in}
use Rattle.drat_check.proofs.stored.stored_ids.Given as goal

-- what was written before, and the copies so far
abbrev pub invariant-wanted : goal.invariant-wanted
invariant-wanted g l = (formula : List (List ℕ)) (before : Option (List ℕ)) →
    HasWritten l.fn.form formula before (bytes_in g.L.Write.contents l.fn.lrat) None None l.fn.checker →
    HasWritten l.fn.form formula before (bytes_in g.L.Write.contents l.lrat) None None l.checker
