use Rattle.refutation_rules.proofs.AnswerLemmas.{answers_are_true}
use Rattle.refutation_rules.proofs.laws.answers_are_true.Goals as goal

pub returns : goal.returns
returns c = answers_are_true
