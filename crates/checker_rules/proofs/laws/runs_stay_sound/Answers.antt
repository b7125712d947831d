use Rattle.checker_rules.proofs.SoundStates as here
use Rattle.checker_rules.proofs.laws.runs_stay_sound.Goals as goal

pub returns : goal.returns
returns c start = here.runs_stay_sound _ _
