use Rattle.sat_rules.proofs.Chains.{chains_sound}
use Rattle.sat_rules.proofs.laws.chains_are_sound.Goals as goal

pub returns : goal.returns
returns c = chains_sound
