use Rattle.std.proofs.Common.{◌≡◌, ap, subst, ◌∙◌}
use Rattle.std.specs.Prelude.{OnOk}
use Rattle.lrat_rules.specs.Groups.{add_negated}
use Rattle.clause_table.specs.Values.{among}
use Rattle.clause_table.proofs.TrailLemmas.{negated_alone}
use Rattle.clause_table.proofs.values.Values.negate_alone.Goals as goal

pub returns : goal.returns
returns c =
    subst (λ s. OnOk c.negate.result (among c.negate.new.self ≡ s))
    (ap (λ t. add_negated c.args.clause.now (among t)) c.clear.ensures ∙ negated_alone c.args.clause.now) c.negate.ensures.set
