use Rattle.drat_text.proofs.ReaderLemmas.{read_on}
use Rattle.drat_text.proofs.reader.StepReader.read.Goals as goal

pub returns-in-Text : goal.returns-in-Text
returns-in-Text g c = search (read_on, rw c.in-Text.is at c.in_ok-format.ensures)

pub returns-in-Binary : goal.returns-in-Binary
returns-in-Binary g c = search (read_on, rw c.in-Binary.is at c.in_ok-format.ensures)
