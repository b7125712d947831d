use Rattle.std.proofs.Common.{ap, ◌∙◌, ◌∷◌, [], ◌++◌, subst}
use Rattle.std.specs.Io.KnownBytes.{Appends}
use Rattle.std.proofs.lemmas.Result.{err_from_is_err_and}
use Rattle.whole_writes.specs.Beginnings.{AppendsBeginning}
use Rattle.proof_bytes.specs.NextStep.{view}
use Rattle.proof_bytes.specs.ProofWriter.{format_in}
use Rattle.proof_bytes.specs.Spelling.{spells}
use Rattle.proof_bytes.specs.Version2.{mark, writing}
use Rattle.lrat_to_proof.proofs.BegunLemmas.{begun_before, begun_one, begun_whole}
use Rattle.lrat_to_proof.proofs.WrittenLemmas.{written_more}
use Rattle.lrat_to_proof.proofs.steps.StepWriter.write.Goals as goal

pub returns-in_err-write-clause-err : goal.returns-in_err-write-clause-err
returns-in_err-write-clause-err g c = λ start steps h.
    let old = g.W.Write.contents c.args.out.now in
    let p = err_from_is_err_and c.from_residual.result c.from_residual.ensures.1 in
    rw p.1 (begun_before start old steps (view c.args.step.now ∷ []) (begun_whole start old steps h.bytes))

pub returns-in_err-append_whole-clause-err : goal.returns-in_err-append_whole-clause-err
returns-in_err-append_whole-clause-err g c = λ start steps h.
    let old = g.W.Write.contents c.args.out.now in
    let new = g.W.Write.contents c.append_whole.new.out in
    let format = format_in c.args.self.now.writer in
    let spelt = mark format ++ spells (writing format) (view c.args.step.now) in
    let p = err_from_is_err_and c.from_residual-in_err-append_whole.result c.from_residual-in_err-append_whole.ensures.1 in
    rw p.1 (begun_one start old new steps (view c.args.step.now) c.args.self.now c.write.new.out.items h
    (c.in_ok-write.ensures.ok ∙ ap (λ bytes. bytes ++ spelt) c.clear.ensures.items)
    (subst (AppendsBeginning old new) c.deref.ensures.value c.in_err-append_whole.ensures.beginning))

pub returns-clause-ok : goal.returns-clause-ok
returns-clause-ok g c = λ start steps h.
    let old = g.W.Write.contents c.args.out.now in
    let new = g.W.Write.contents c.append_whole.new.out in
    let wrote = c.in_ok-write.ensures in
    let format = format_in c.args.self.now.writer in
    let spelt = mark format ++ spells (writing format) (view c.args.step.now) in
    written_more start old new steps (view c.args.step.now) c.args.self.now (record { writer = c.write.new.self; bytes = c.write.new.out }) c.write.new.out.items h
    (wrote.ok ∙ ap (λ bytes. bytes ++ spelt) c.clear.ensures.items) wrote.fits wrote.format
    (subst (Appends old new) c.deref.ensures.value c.in_ok-append_whole.ensures.whole)
