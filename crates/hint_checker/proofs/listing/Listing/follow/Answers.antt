use Rattle.std.proofs.Common.{sym, ap, ◌∙◌}
use Rattle.std.specs.Option.{option_copied}
use Rattle.sat_rules.specs.Clauses.{add_lit}
use Rattle.sat_rules.specs.HintLines.{go_on, next_cause}
use Rattle.clause_table.specs.Values.{among}
use Rattle.clause_table.proofs.TrailLemmas.{among-with_lit}
use Rattle.hint_checker.proofs.listing.Listing.follow.Goals as goal

pub returns-clause-ok : goal.returns-clause-ok
returns-clause-ok c rest =
    let s = among c.args.values.now in
    ap (λ o. next_cause s o rest) (sym c.get.ensures ∙ ap option_copied c.in_ok-clause.ensures.ok_part)
    ∙ ap (λ o. go_on o (λ l. rest (add_lit l s))) (sym c.unit.ensures ∙ c.in_ok-unit.ensures.ok_part)
    ∙ ap rest (sym (among-with_lit c.in_ok-unit.unit c.args.values.now)) ∙ ap (λ t. rest (among t)) (sym c.in_ok-set.ensures)
