use Rattle.lrat_text.proofs.LineLemmas.{first_line}
use Rattle.lrat_text.proofs.lines.Lines.whole_ahead.Goals as goal

pub returns-clause-line : goal.returns-clause-line
returns-clause-line g c = first_line c.ahead-ahead.result.now c.in_ok-len.len c.in_ok-len.ensures
