-- The rows, by computation.
use Rattle.refutation_rules.specs.SessionRows.{SessionRows}

pub session_rows : SessionRows
session_rows = assumption
