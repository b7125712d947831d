use Rattle.model_check.proofs.ModelLemmas.{met_clauses_are_satisfied}
use Rattle.model_check.proofs.laws.met_clauses_are_satisfied.Goals as goal

pub returns : goal.returns
returns c = met_clauses_are_satisfied
