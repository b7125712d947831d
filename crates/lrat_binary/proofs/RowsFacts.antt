-- Worked proofs, by computing what they say and what is detected of them.
use Rattle.lrat_binary.specs.Lines.{outcome_at}
use Rattle.lrat_binary.specs.Rows.{BinaryRows}
use Rattle.lrat_binary.specs.Telling.{are_doubled}

pub binary_rows : BinaryRows
unfolding outcome_at are_doubled
binary_rows = assumption
