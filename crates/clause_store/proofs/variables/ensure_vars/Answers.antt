use Rattle.clause_store.proofs.GrowthLemmas.{knows_vars}
use Rattle.std.proofs.lemmas.Result.{on_ok_weaker}
use Rattle.clause_store.proofs.variables.ensure_vars.Goals as goal

pub returns : goal.returns
returns c = on_ok_weaker c.know-3.result
    (λ grown. knows_vars _ _ _ _ _ _ c.requires c.in_ok-know.ensures c.in_ok-know-2.ensures
    grown) c.know-3.ensures.ok
