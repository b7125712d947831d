use Rattle.refutation_rules.proofs.FollowRowsFacts.{follow_rows}
use Rattle.refutation_rules.proofs.laws.follow_rows.Goals as goal

pub returns : goal.returns
returns c = follow_rows
