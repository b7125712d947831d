use Rattle.std.proofs.Common.{◌∙◌}
use Rattle.clause_store.proofs.CrowdLemmas.{standing-some}
use Rattle.clause_store.proofs.clauses.places.some_stands.Goals as goal

pub returns : goal.returns
returns c = c.is_some_taken.ensures ∙ standing-some c.args.places.now
