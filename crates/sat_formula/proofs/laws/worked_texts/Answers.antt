use Rattle.sat_formula.specs.Lines.{tokens_from, lines_from}
use Rattle.sat_formula.proofs.laws.worked_texts.Goals as goal

-- by computing what the lines say
pub returns : goal.returns
unfolding tokens_from lines_from
returns c = search
