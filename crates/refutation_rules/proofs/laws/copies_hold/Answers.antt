use Rattle.refutation_rules.proofs.CopyLemmas.{copies_hold}
use Rattle.refutation_rules.proofs.laws.copies_hold.Goals as goal

pub returns : goal.returns
returns c = copies_hold
