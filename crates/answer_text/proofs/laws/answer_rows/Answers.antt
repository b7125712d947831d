use Rattle.answer_text.specs.Answers.{answer_from, numbers_from}
use Rattle.answer_text.proofs.laws.answer_rows.Goals as goal

pub returns : goal.returns
unfolding answer_from numbers_from
returns c = assumption
