use Rattle.checker_rules.proofs.Covering as lemmas
use Rattle.checker_rules.proofs.laws.steps_cover.Goals as goal

pub returns : goal.returns
returns c = lemmas.steps_cover
