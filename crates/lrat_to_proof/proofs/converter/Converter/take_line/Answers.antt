use Rattle.std.proofs.Common.{refl}
use Rattle.std.proofs.lemmas.Result.{err_from_is_err_and}
use Rattle.lrat_to_proof.specs.Converting.{delete_all}
use Rattle.lrat_to_proof.proofs.ConvertedLemmas.{stopped_all}
use Rattle.lrat_to_proof.proofs.converter.Converter.take_line.Goals as goal

pub returns-in-Add-clause-err : goal.returns-in-Add-clause-err
returns-in-Add-clause-err g c = λ width start d h. rw c.in-Add.is (c.add.ensures.err width start d h)

pub returns-in-Add-clause-given_up : goal.returns-in-Add-clause-given_up
returns-in-Add-clause-given_up g c = λ width start d h. rw c.in-Add.is (c.add.ensures.given_up width start d h)

pub returns-in_err-delete_all-in-Delete-clause-given_up : goal.returns-in_err-delete_all-in-Delete-clause-given_up
returns-in_err-delete_all-in-Delete-clause-given_up g c = λ width start d h.
    let p = err_from_is_err_and c.from_residual.result c.from_residual.ensures.1 in
    let new = g.W.Write.contents c.delete_all.new.out in
    rw p.1 (λ _. rw c.in-Delete.is (stopped_all width start (g.W.Write.contents c.args.out.now) d c.args.self.now h c.in-Delete.ids.now new
    (c.in_err-delete_all-in-Delete.ensures.err width start d h)))

pub returns-in_ok-delete_all-in-Delete-clause-ok : goal.returns-in_ok-delete_all-in-Delete-clause-ok
returns-in_ok-delete_all-in-Delete-clause-ok g c = λ width start d h. record {
  after = delete_all d c.in-Delete.ids.now;
  ran = rw c.in-Delete.is refl;
  stands = c.in_ok-delete_all-in-Delete.ensures.ok width start d h;
}
