use Rattle.checker_rules.proofs.HintLineRowsFacts as here
use Rattle.checker_rules.proofs.laws.hint_line_rows.Goals as goal

pub returns : goal.returns
returns c = here.hint_line_rows
