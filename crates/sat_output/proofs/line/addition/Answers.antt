use Rattle.std.proofs.Common.{arith}
use Rattle.std.proofs.lemmas.Grind.{common_steps}
use Rattle.written_numbers.proofs.SpacedWords.{spaced-append}
use Rattle.sat_output.proofs.line.addition.Goals as goal

pub returns : goal.returns
returns c = grind (arith, common_steps, spaced-append)
