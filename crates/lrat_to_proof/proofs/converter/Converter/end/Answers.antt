use Rattle.std.proofs.KnownBytes.{Appends-kept}
use Rattle.std.proofs.lemmas.Result.{err_from_is_err_and}
use Rattle.proof_bytes.specs.Version2.{text_2}
use Rattle.lrat_to_proof.specs.Converting.{whole}
use Rattle.lrat_to_proof.proofs.BegunLemmas.{begun_whole}
use Rattle.lrat_to_proof.proofs.converter.Converter.end.Goals as goal

pub returns-in_err-flush-clause-err : goal.returns-in_err-flush-clause-err
returns-in_err-flush-clause-err g c = λ width start d h.
    let p = err_from_is_err_and c.from_residual-in_err-flush.result c.from_residual-in_err-flush.ensures.1 in
    let written = g.W.Write.contents c.write.new.out in
    let new = g.W.Write.contents c.flush.new.self in
    let wrote = c.in_ok-write.ensures.ok start d.steps h.written in
    rw p.1 (begun_whole start new (whole d) (Appends-kept start written new (text_2 (whole d)) wrote.bytes c.in_err-flush.ensures.bytes))
