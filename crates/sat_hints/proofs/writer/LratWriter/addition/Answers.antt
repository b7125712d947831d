use Rattle.std.proofs.Common.{arith}
use Rattle.std.proofs.lemmas.Grind.{common_steps}
use Rattle.written_numbers.proofs.SpacedWords.{spaced-append}
use Rattle.sat_hints.proofs.writer.LratWriter.addition.Goals as goal

pub returns-clause-line : goal.returns-clause-line
returns-clause-line c = grind (arith, common_steps, spaced-append)
