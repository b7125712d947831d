use Rattle.std.proofs.Common.{rules, ◌≡◌, true, false, List, sym, ap, ◌∙◌}
use Rattle.std.specs.List.{list_all}
use Rattle.index_text.specs.declared.relation.Relation.{Relation}
use Rattle.index_text.specs.Lists.{is_feature}
use Rattle.index_text.specs.Reading.{relation_seen}
use Rattle.index_text.proofs.ListLemmas.{provides_judged}
use Rattle.index_text.proofs.lists.read_provides.Goals as goal

pub returns-then-not-are_features : goal.returns-then-not-are_features
returns-then-not-are_features c =
    let answer : c.are_features.result ≡ false = search rules in
    let seen = c.are_features.ensures ∙ ap (λ (rs : List Relation). list_all (λ r. is_feature (relation_seen r)) rs) c.deref.ensures.value in
    provides_judged c.args.text.now c.in_ok-relations.relations.items false c.in_ok-relations.ensures (sym seen ∙ answer)

pub returns : goal.returns
returns c =
    let answer : c.are_features.result ≡ true = search rules in
    let seen = c.are_features.ensures ∙ ap (λ (rs : List Relation). list_all (λ r. is_feature (relation_seen r)) rs) c.deref.ensures.value in
    provides_judged c.args.text.now c.in_ok-relations.relations.items true c.in_ok-relations.ensures (sym seen ∙ answer)
