use Rattle.definition_rows.proofs.CubeFacts.{cube_rows}
use Rattle.definition_rows.proofs.laws.cube_rows.Goals as goal

pub returns : goal.returns
returns c = cube_rows
