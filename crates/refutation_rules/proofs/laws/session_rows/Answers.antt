use Rattle.refutation_rules.proofs.SessionRowsFacts.{session_rows}
use Rattle.refutation_rules.proofs.laws.session_rows.Goals as goal

pub returns : goal.returns
returns c = session_rows
