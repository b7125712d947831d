-- Worked proofs, by computing what they say.
use Rattle.drat_text.specs.FratBytes.{told_by}
use Rattle.drat_text.specs.Proofs.{outcome_at}
use Rattle.drat_text.specs.FratRows.{FratRows}

pub frat_rows : FratRows
unfolding outcome_at told_by
frat_rows = assumption
