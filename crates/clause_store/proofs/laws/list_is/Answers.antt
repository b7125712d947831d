use Rattle.clause_store.proofs.ViewLemmas as lemmas
use Rattle.clause_store.proofs.laws.list_is.Goals as goal

pub returns : goal.returns
returns c = λ buffer m h es next rise. lemmas.list_is buffer m h es (lemmas.above_from 0 next es rise)
