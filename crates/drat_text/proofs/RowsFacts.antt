-- Worked proofs, by computing what they say.
use Rattle.drat_text.specs.Proofs.{outcome_at}
use Rattle.drat_text.specs.Rows.{DratRows}

pub drat_rows : DratRows
unfolding outcome_at
drat_rows = assumption
