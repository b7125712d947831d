use Rattle.session_checker.proofs.SessionLemmas.{sessions_are_true}
use Rattle.session_checker.proofs.laws.sessions_are_true.Goals as goal

pub returns : goal.returns
returns c = sessions_are_true
