use Rattle.proof_bytes.specs.Reading.{more_at, number_at}
use Rattle.written_numbers.specs.GroupedBytes.{groups, number_bytes}
use Rattle.proof_bytes.proofs.laws.number_rows.Goals as goal

pub returns : goal.returns
unfolding number_bytes groups number_at more_at
returns c = search
