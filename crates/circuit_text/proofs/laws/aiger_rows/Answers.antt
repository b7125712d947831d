use Rattle.circuit_text.specs.automaton.Aigers.{outcome_at}
use Rattle.circuit_text.specs.automaton.Places.{after}
use Rattle.circuit_text.proofs.laws.aiger_rows.Goals as goal

pub returns : goal.returns
unfolding outcome_at after
returns c = assumption
