use Rattle.session_check.proofs.JoinLemmas.{told_is_said}
use Rattle.session_check.proofs.laws.told_is_said.Goals as goal

pub returns : goal.returns
returns c = told_is_said
