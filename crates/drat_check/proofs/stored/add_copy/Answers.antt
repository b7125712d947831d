use Rattle.std.proofs.KnownBytes.{Keeps-refl}
use Rattle.drat_check.specs.Outputs.{bytes_in}
use Rattle.drat_check.proofs.WrittenLines.{began_after}
use Rattle.drat_check.proofs.WrittenPieces.{began_addition, one_added}
use Rattle.drat_check.proofs.stored.add_copy.Goals as goal

pub returns-in-Err-clause-written : goal.returns-in-Err-clause-written
returns-in-Err-clause-written g c = λ formula before p. began_after p (Keeps-refl (bytes_in g.L.Write.contents c.args.lrat.now)) tt

pub returns-in-Ok-clause-written : goal.returns-in-Ok-clause-written
returns-in-Ok-clause-written g c = λ formula before p.
    one_added c.args.id c.args.id c.args.clause.now _ p (c.in_default.ensures.accepted formula p.lines p.ready) c.in-Ok.ensures.whole

pub returns-in-Err-write_accepted-clause-written : goal.returns-in-Err-write_accepted-clause-written
returns-in-Err-write_accepted-clause-written g c = λ formula before p.
    began_addition c.args.id c.args.id c.args.clause.now _ p (c.in_default.ensures.accepted formula p.lines p.ready) c.in-Err-write_accepted.ensures.beginning
