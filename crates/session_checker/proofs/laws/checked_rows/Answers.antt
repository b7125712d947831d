use Rattle.session_checker.proofs.RowsFacts.{checked_rows}
use Rattle.session_checker.proofs.laws.checked_rows.Goals as goal

pub returns : goal.returns
returns c = checked_rows
