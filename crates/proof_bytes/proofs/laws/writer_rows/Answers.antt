use Rattle.written_numbers.specs.GroupedBytes.{groups, number_bytes}
use Rattle.proof_bytes.specs.Spelling.{spells, hash, little, listed}
use Rattle.proof_bytes.specs.Texts.{text}
use Rattle.proof_bytes.proofs.laws.writer_rows.Goals as goal

pub returns : goal.returns
unfolding text spells number_bytes groups hash little listed
returns c = search
