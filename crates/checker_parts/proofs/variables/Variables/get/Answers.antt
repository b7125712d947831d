use Rattle.std.proofs.lemmas.List.{get_or_past}
use Rattle.std.proofs.Common.{arith}
use Rattle.std.proofs.lemmas.Grind.{common_steps}
use Rattle.checker_parts.proofs.Columns.{known-parts, mode-read, length-known_by}
use Rattle.checker_parts.proofs.variables.Variables.get.Goals as goal

pub returns-in-Some : goal.returns-in-Some
returns-in-Some c = grind (arith, common_steps, known-parts, mode-read)

pub returns-in-None : goal.returns-in-None
returns-in-None c = grind (arith, common_steps, get_or_past, length-known_by)
