use Rattle.std.proofs.Common.{Some, sym, ◌∙◌}
use Rattle.clause_store.specs.Lits.{IsWithin}
use Rattle.clause_store.proofs.CrowdLemmas.{All-stands, place-is}
use Rattle.checker_steps.proofs.steps.model.meets_crowd.Goals as goal

pub meets_clause-requires : goal.meets_clause-requires
meets_clause-requires c =
    let ps = c.args.places.now in let i = c.loop-place.place-index in let d = c.in-Some.clause in let less = c.loop-place-test.true in
    All-stands (λ e. IsWithin e.lits c.args.buffer.now) ps i d c.requires less (place-is ps i _ (Some d) less (sym c.place-item.is ∙ c.in-Some.is))
