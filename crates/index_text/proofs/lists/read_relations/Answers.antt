use Rattle.std.proofs.Common.{◌∙◌}
use Rattle.sat_formula.proofs.Exits.{exits}
use Rattle.index_text.specs.Lists.{relations_in}
use Rattle.index_text.specs.Reading.{ReadsAs, relations_seen}
use Rattle.index_text.specs.Relations.{relation_of}
use Rattle.index_text.proofs.ListLemmas.{each_fails, each_last, each_on, relations-more, some_part}
use Rattle.index_text.proofs.lists.read_relations.Goals as goal

pub parts-preserved : goal.parts-preserved
parts-preserved c =
    let parts = rw c.in-Some.is at c.split_part.ensures.parts in
    record {
      read = c.parts.invariant.read
          ∙ each_on relation_of _ _ _ _ _ _ parts c.in_ok-read_relation.ensures (relations-more _ _ _ c.in_ok-push.ensures.items);
    }

pub returns-in-None : goal.returns-in-None
returns-in-None c =
    let parts = rw c.in-None.is at c.split_part.ensures.parts in
    c.parts.invariant.read
    ∙ each_last relation_of _ _ _ _ _ parts c.in_ok-read_relation.ensures (relations-more _ _ _ c.in_ok-push.ensures.items)

pub returns-in_err-read_relation : goal.returns-in_err-read_relation
returns-in_err-read_relation c =
    let part = some_part c.args.separator _ _ _ c.split_part.ensures.parts in
    exits (λ r. ReadsAs (λ v. relations_seen v.items) (relations_in c.args.separator c.args.text.now) r) _ _ c.from_residual.ensures.1
    (c.parts.invariant.read ∙ each_fails relation_of _ _ part.0 _ _ part.1 c.in_err-read_relation.ensures)
