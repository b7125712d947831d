use Rattle.std.proofs.Common.{◌<◌, Bool, length, Option, ap, sym, ◌∙◌}
use Rattle.clause_store.specs.declared.clauses.units.Value.TheVariants as values
use Rattle.clause_store.specs.Units.{known, signed, unit_at, value_by}
use Rattle.std.proofs.lemmas.List.{get_or_default}
use Rattle.clause_store.proofs.UnitsLemmas.{eq-falsity, falsity, signed-value, true_lits-falsity}
use Rattle.clause_store.proofs.clauses.units.Units.is_false_by.Goals as goal

pub returns : goal.returns
returns c =
    let us = c.args.self.now in let m = c.args.lit in let i = c.index.result in
    let less : i < length us = rw c.index.ensures.value c.requires.known in
    let there = c.requires.values i less in
    let of_lit = c.of_lit.ensures ∙ ap (λ (b : Option Bool). signed b m) (ap known (get_or_default c.args.values.now i _ values.Free there.0) ∙ there.1)
    ∙ signed-value (unit_at us i) m ∙ ap (λ k. value_by (unit_at us k) m) c.index.ensures.value in
    c.eq.ensures ∙ eq-falsity c.of_lit.result ∙ ap falsity of_lit ∙ sym (true_lits-falsity us m)
