-- The rows, by computation.
use Rattle.session_checker.specs.Rows.{CheckedRows}

pub checked_rows : CheckedRows
checked_rows = assumption
