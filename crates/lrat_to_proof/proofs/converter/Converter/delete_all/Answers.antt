use Rattle.std.proofs.Common.{◌+◌, drop, slice_index_or, sym, ap, ◌∙◌, subst}
use Rattle.std.proofs.lemmas.List.{at_drop_all, drop_more}
use Rattle.std.proofs.lemmas.Result.{err_from_is_err_and}
use Rattle.lrat_to_proof.specs.Converting.{Converted, delete_all, delete_one}
use Rattle.lrat_to_proof.specs.Standing.{HasBegun, HasConverted}
use Rattle.lrat_to_proof.proofs.BegunLemmas.{begun_in_all}
use Rattle.lrat_to_proof.proofs.converter.Converter.delete_all.Goals as goal

pub loop-id-preserved : goal.loop-id-preserved
loop-id-preserved g c = λ width start d h.
    let k = c.loop-id.invariant width start d h in
    let ids = c.args.ids.now in
    let i = c.loop-id.id-index in (
      delete_one k.0 (slice_index_or ids i 0),
      c.in_ok-delete_one.ensures.ok width start k.0 k.1,
      sym (ap (delete_all k.0) (drop_more ids i 0 c.loop-id-test.true)) ∙ k.2,
    )

pub returns-in_err-delete_one-clause-err : goal.returns-in_err-delete_one-clause-err
returns-in_err-delete_one-clause-err g c = λ width start d h.
    let p = err_from_is_err_and c.from_residual.result c.from_residual.ensures.1 in
    let k = c.loop-id.invariant width start d h in
    let ids = c.args.ids.now in
    let i = c.loop-id.id-index in
    let new = g.W.Write.contents c.delete_one.new.out in
    rw p.1 (subst (λ (e : Converted). HasBegun start new e.steps) (sym (ap (delete_all k.0) (drop_more ids i 0 c.loop-id-test.true)) ∙ k.2)
    (begun_in_all start new (delete_one k.0 (slice_index_or ids i 0)) (drop (i + 1) ids) (c.in_err-delete_one.ensures.err width start k.0 k.1)))

pub returns-clause-ok : goal.returns-clause-ok
returns-clause-ok g c = λ width start d h.
    let k = c.loop-id.invariant width start d h in
    subst (λ e. HasConverted width start (g.W.Write.contents c.loop-id.out) e c.loop-id.self)
    (sym (at_drop_all (delete_all k.0) c.args.ids.now c.loop-id.id-index c.loop-id-test.false) ∙ k.2) k.1
