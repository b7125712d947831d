use Rattle.definition_rows.proofs.AnswerFacts.{answer_rows}
use Rattle.definition_rows.proofs.laws.answer_rows.Goals as goal

pub returns : goal.returns
returns c = answer_rows
