use Rattle.session_checker.proofs.Exact.{causes_exact}
use Rattle.session_checker.proofs.laws.causes_are_exact.Goals as goal

pub returns : goal.returns
returns c = causes_exact
