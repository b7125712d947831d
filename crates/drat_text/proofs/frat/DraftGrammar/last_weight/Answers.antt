use Rattle.drat_text.specs.Places.{ninth_last}
use Rattle.drat_text.proofs.frat.DraftGrammar.last_weight.Goals as goal

pub returns-clause-weight : goal.returns-clause-weight
returns-clause-weight g = ninth_last
