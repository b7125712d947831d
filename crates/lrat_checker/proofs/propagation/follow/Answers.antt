use Rattle.std.proofs.Common.{sym, ap, ◌∙◌}
use Rattle.sat_rules.specs.Clauses.{add_lit}
use Rattle.lrat_rules.specs.Propagation.{conflict, on_named}
use Rattle.clause_table.specs.Values.{among}
use Rattle.clause_table.proofs.TrailLemmas.{among-with_lit}
use Rattle.lrat_checker.proofs.propagation.follow.Goals as goal

pub returns-in_ok-set-in-One-clause-ending : goal.returns-in_ok-set-in-One-clause-ending
returns-in_ok-set-in-One-clause-ending c rest =
    let s = among c.args.values.now in
    ap (λ o. on_named o s rest) (sym c.in-Some.ensures) ∙ c.in-One.ensures conflict (λ l. rest (add_lit l s))
    ∙ ap rest (sym (among-with_lit c.in-One.lit c.args.values.now)) ∙ ap (λ t. rest (among t)) (sym c.in_ok-set-in-One.ensures)
