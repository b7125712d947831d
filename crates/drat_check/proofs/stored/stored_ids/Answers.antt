use Rattle.std.proofs.KnownBytes.{Keeps-refl}
use Rattle.drat_check.specs.Outputs.{bytes_in}
use Rattle.drat_check.proofs.WrittenLines.{began_after}
use Rattle.drat_check.proofs.stored.stored_ids.Goals as goal

pub returns-in_default-clause-written : goal.returns-in_default-clause-written
returns-in_default-clause-written g c = λ formula before p.
    began_after (c.wanted.invariant formula before p) (Keeps-refl (bytes_in g.L.Write.contents c.wanted.lrat)) tt

pub returns-in-Err-clause-written : goal.returns-in-Err-clause-written
returns-in-Err-clause-written g c = λ formula before p.
    c.in-Err.ensures.written formula before (c.wanted.invariant formula before p)

pub returns-then-is_err-clause-written : goal.returns-then-is_err-clause-written
returns-then-is_err-clause-written g c = λ formula before p.
    began_after (c.in-Ok.ensures.written formula before (c.wanted.invariant formula before p)) (Keeps-refl (bytes_in g.L.Write.contents c.id_as_written.new.lrat)) tt
