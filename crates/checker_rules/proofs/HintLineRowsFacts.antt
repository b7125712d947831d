-- The rows on lines of hints, by computation.
use Rattle.checker_rules.specs.HintLineRows.{HintLineRows}

pub hint_line_rows : HintLineRows
hint_line_rows = assumption
