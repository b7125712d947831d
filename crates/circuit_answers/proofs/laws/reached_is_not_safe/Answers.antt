use Rattle.circuit_answers.proofs.RunLemmas.{reached_is_not_safe}
use Rattle.circuit_answers.proofs.laws.reached_is_not_safe.Goals as goal

pub returns : goal.returns
returns c = reached_is_not_safe
