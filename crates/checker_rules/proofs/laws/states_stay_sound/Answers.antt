use Rattle.checker_rules.proofs.SoundStates as lemmas
use Rattle.checker_rules.proofs.laws.states_stay_sound.Goals as goal

pub returns : goal.returns
returns c = lemmas.states_stay_sound
