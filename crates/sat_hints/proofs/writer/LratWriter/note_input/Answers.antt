use Rattle.std.proofs.Common.{nat_eq, refl, ap}
use Rattle.std.specs.List.{list_any}
use Rattle.std.proofs.lemmas.Result.{err_from_is_err_and}
use Rattle.sat_hints.specs.Writing.{writer_of}
use Rattle.sat_hints.proofs.writer.LratWriter.note_input.Goals as goal

pub returns-in_err-insert-clause-err : goal.returns-in_err-insert-clause-err
returns-in_err-insert-clause-err c =
    let p = err_from_is_err_and c.from_residual.result c.from_residual.ensures.1 in
    rw p.1 (record { same = ap (λ keys. record (writer_of c.args.self.now) { inputs = λ k. list_any (nat_eq k) keys }) c.in_err-insert.ensures.err; text = refl })
