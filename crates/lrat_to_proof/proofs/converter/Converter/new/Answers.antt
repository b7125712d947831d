use Rattle.std.proofs.Common.{[]}
use Rattle.std.proofs.KnownBytes.{Appends-nil}
use Rattle.std.proofs.lemmas.Result.{err_from_is_err_and}
use Rattle.lrat_to_proof.specs.Converting.{header}
use Rattle.lrat_to_proof.specs.Widths.{bits_of}
use Rattle.lrat_to_proof.proofs.BegunLemmas.{begun_before, begun_whole}
use Rattle.lrat_to_proof.proofs.converter.Converter.new.Goals as goal

pub returns-in_err-held-clause-err : goal.returns-in_err-held-clause-err
returns-in_err-held-clause-err g c =
    let start = g.W.Write.contents c.args.out.now in
    let p = err_from_is_err_and c.from_residual.result c.from_residual.ensures.1 in
    rw p.1 (begun_before start start [] (header (bits_of c.args.width)) (begun_whole start start [] (Appends-nil start)))

pub returns-in_err-begin-clause-err : goal.returns-in_err-begin-clause-err
returns-in_err-begin-clause-err g c =
    let start = g.W.Write.contents c.args.out.now in
    let p = err_from_is_err_and c.from_residual-in_err-begin.result c.from_residual-in_err-begin.ensures.1 in
    rw p.1 (c.in_err-begin.ensures.err start (c.new-steps.ensures start))

pub returns-clause-ok : goal.returns-clause-ok
returns-clause-ok g c =
    let start = g.W.Write.contents c.args.out.now in
    record {
      written = c.in_ok-begin.ensures.ok start (c.new-steps.ensures start);
      held = c.in_ok-held.ensures;
      bits = c.bits.ensures;
      names = c.new-hasher.ensures.names;
    }
