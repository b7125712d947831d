use Rattle.stimulus_text.specs.automaton.Texts.{outcome_at}
use Rattle.stimulus_text.specs.automaton.Places.{after}
use Rattle.stimulus_text.proofs.laws.stimulus_rows.Goals as goal

pub returns : goal.returns
unfolding outcome_at after
returns c = assumption
