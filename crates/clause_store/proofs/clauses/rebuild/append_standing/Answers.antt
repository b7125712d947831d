use Rattle.std.proofs.Common.{◌++◌, ◌∷◌, [], None, Some, append-nil, append_assoc, sym, ◌∙◌, arith, take, ap}
use Rattle.std.proofs.lemmas.List.{take_all}
use Rattle.clause_store.specs.Crowds.{standing}
use Rattle.clause_store.proofs.CrowdLemmas.{place-here, standing-more}
use Rattle.clause_store.proofs.clauses.rebuild.append_standing.Goals as goal

pub loop-place-preserved : goal.loop-place-preserved
loop-place-preserved c =
    let ps = c.args.places.now in let i = c.loop-place.place-index in let d = c.in-Some.clause in let old = c.args.all.now.items in
    c.in_ok-push.ensures.items ∙ ap (λ xs. xs ++ d ∷ []) c.loop-place.invariant ∙ append_assoc old _ (d ∷ [])
    ∙ ap (λ xs. old ++ xs) (sym (standing-more ps i (Some d) c.loop-place-test.true (place-here ps i _ (Some d) c.loop-place-test.true (sym c.place-item.is ∙ c.in-Some.is))))

pub loop-place-preserved-in_default : goal.loop-place-preserved-in_default
loop-place-preserved-in_default c =
    let ps = c.args.places.now in let i = c.loop-place.place-index in
    let more = standing-more ps i None c.loop-place-test.true (place-here ps i _ None c.loop-place-test.true (sym c.place-item.is ∙ c.in_default.is)) in
    cc (more, append-nil (standing (take i ps)))

pub returns : goal.returns
returns c = rw (take_all c.loop-place.place-index c.args.places.now (omega arith)) at c.loop-place.invariant
