use Rattle.sat_formula.specs.Notes.{notes_at}
use Rattle.sat_formula.proofs.laws.worked_notes.Goals as goal

-- by computing what the lines say
pub returns : goal.returns
unfolding notes_at
returns c = search
