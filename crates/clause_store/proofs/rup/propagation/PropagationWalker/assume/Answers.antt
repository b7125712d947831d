use Rattle.clause_store.proofs.TraceLemmas.{opens-walked}
use Rattle.clause_store.proofs.rup.propagation.PropagationWalker.assume.Goals as goal

pub returns-clause-opens : goal.returns-clause-opens
returns-clause-opens c =
    let before = c.in_ok-assume_false.ensures in
    opens-walked _ c.args.units.now _ _ c.requires.ids c.in_default.ensures before.kept before.ok before.unlisted
