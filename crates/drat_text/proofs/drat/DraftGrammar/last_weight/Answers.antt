use Rattle.drat_text.specs.Places.{fifth_last}
use Rattle.drat_text.proofs.drat.DraftGrammar.last_weight.Goals as goal

pub returns-clause-weight : goal.returns-clause-weight
returns-clause-weight g = fifth_last
