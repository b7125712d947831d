use Rattle.std.proofs.Common.{◌≡◌, ap, arith, length, sym, ◌∙◌}
use Rattle.std.proofs.lemmas.List.{with_items_is}
use Rattle.clause_store.specs.Crowds.{standing}
use Rattle.clause_store.proofs.MoveLemmas.{all_moved_to-length}
use Rattle.clause_store.proofs.clauses.collect.move_bucket.Goals as goal

pub invariant_of-deref_mut : goal.invariant_of-deref_mut
invariant_of-deref_mut c =
    let x = c.deref_mut.result.now in let before = c.deref_mut-in-Many.result.now in let after = c.move_places.new.places in
    let same : before ≡ x.places.items = c.deref_mut-in-Many.ensures.value in
    let places : length after ≡ length x.places.items = c.move_places.ensures.places ∙ ap length same in
    let clauses : length (standing after) ≡ length (standing x.places.items) =
    ap length c.move_places.ensures.moved ∙ all_moved_to-length c.args.at (standing before) ∙ ap (λ ps. length (standing ps)) same in
    rw (with_items_is x.places after (places ∙ sym x.places.ok.0))
    (record { counted = omega (arith, clauses, places, x.counted); half = omega (arith, places, x.half); few_notes = omega (arith, places, x.few_notes) })
