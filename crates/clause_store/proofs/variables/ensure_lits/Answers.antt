use Rattle.std.proofs.Common.{refl}
use Rattle.clause_store.proofs.GrowthLemmas.{knows_none}
use Rattle.clause_store.proofs.variables.ensure_lits.Goals as goal

pub returns-then-are_known : goal.returns-then-are_known
returns-then-are_known c =
    knows_none _ _ _ c.requires.same c.requires.counts (c.if-are_known.ensures.0 refl)
