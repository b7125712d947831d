use Rattle.session_text.proofs.Lines.{are_lines}
use Rattle.session_text.proofs.laws.bytes_are_lines.Goals as goal

pub returns : goal.returns
returns c = λ format text. are_lines format text
