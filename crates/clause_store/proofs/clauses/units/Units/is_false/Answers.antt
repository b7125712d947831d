use Rattle.std.proofs.Common.{sym, ap, ◌∙◌}
use Rattle.clause_store.proofs.UnitsLemmas.{eq-falsity, falsity, true_lits-falsity}
use Rattle.clause_store.proofs.clauses.units.Units.is_false.Goals as goal

pub returns : goal.returns
returns c = c.eq.ensures ∙ eq-falsity c.lit_value.result ∙ ap falsity c.lit_value.ensures ∙ sym (true_lits-falsity c.args.self.now c.args.lit)
