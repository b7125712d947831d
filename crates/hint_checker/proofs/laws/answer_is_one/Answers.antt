use Rattle.hint_checker.proofs.OneAnswer.{answer_is_one}
use Rattle.hint_checker.proofs.laws.answer_is_one.Goals as goal

pub returns : goal.returns
returns c = answer_is_one
