use Rattle.answer_text.proofs.Lines.{are_lines}
use Rattle.answer_text.proofs.laws.bytes_are_lines.Goals as goal

pub returns : goal.returns
returns c = λ text. are_lines text
