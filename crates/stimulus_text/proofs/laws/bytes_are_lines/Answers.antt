use Rattle.stimulus_text.proofs.Written.{are_lines}
use Rattle.stimulus_text.proofs.laws.bytes_are_lines.Goals as goal

pub returns : goal.returns
returns c = λ shape text. are_lines shape text
