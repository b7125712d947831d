use Rattle.clause_store.proofs.CheckLemmas as lemmas
use Rattle.clause_store.proofs.laws.check_is_by_rules.Goals as goal

pub returns : goal.returns
returns c = lemmas.check_is_by_rules
