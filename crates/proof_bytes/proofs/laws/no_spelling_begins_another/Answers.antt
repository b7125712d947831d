use Rattle.proof_bytes.proofs.TextLaws.{no_spelling_begins_another}
use Rattle.proof_bytes.proofs.laws.no_spelling_begins_another.Goals as goal

pub returns : goal.returns
returns c = no_spelling_begins_another
