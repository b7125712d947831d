use Rattle.circuit_text.specs.automaton.Aigers.{outcome_at}
use Rattle.circuit_text.specs.automaton.Places.{after}
use Rattle.circuit_names.specs.Starts.{place_after}
use Rattle.circuit_names.proofs.laws.name_rows.Goals as goal

pub returns : goal.returns
unfolding outcome_at after place_after
returns c = assumption
