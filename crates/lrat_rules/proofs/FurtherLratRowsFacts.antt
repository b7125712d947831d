-- The further rows, by computation.
use Rattle.lrat_rules.specs.FurtherLratRows.{FurtherLratRows}

pub further_lrat_rows : FurtherLratRows
further_lrat_rows = assumption
