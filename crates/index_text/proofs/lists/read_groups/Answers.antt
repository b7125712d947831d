use Rattle.std.proofs.Common.{Result, Vec, ◌∙◌}
use Rattle.std.specs.Global.{Global}
use Rattle.sat_formula.proofs.Exits.{exits}
use Rattle.sat_formula.specs.declared.stop.Stop.{Stop}
use Rattle.index_text.specs.declared.fault.IndexKind.{IndexKind}
use Rattle.index_text.specs.declared.relation.Relation.{Relation}
use Rattle.index_text.specs.Lists.{groups_of, parts_of, relations_in}
use Rattle.index_text.specs.Reading.{ReadsAs, groups_seen, relations_seen}
use Rattle.index_text.proofs.ListLemmas.{each_fails, each_last, each_on, fails_as, groups-more, some_part}
use Rattle.index_text.proofs.lists.read_groups.Goals as goal

pub groups-preserved : goal.groups-preserved
groups-preserved c =
    let parts = rw c.in-Some.is at c.split_part.ensures.parts in
    record {
      read = c.groups.invariant.read
          ∙ each_on (relations_in 124) _ _ _ _ _ _ parts c.in_ok-read_relations.ensures (groups-more _ _ _ c.in_ok-push.ensures.items);
    }

pub returns-in-None : goal.returns-in-None
returns-in-None c =
    let parts = rw c.in-None.is at c.split_part.ensures.parts in
    c.groups.invariant.read
    ∙ each_last (relations_in 124) _ _ _ _ _ parts c.in_ok-read_relations.ensures (groups-more _ _ _ c.in_ok-push.ensures.items)

pub returns-in_err-read_relations : goal.returns-in_err-read_relations
returns-in_err-read_relations c =
    let found = c.split_part.result in
    let part = some_part 44 c.groups.rest.now found.0.now found.1 c.split_part.ensures.parts in
    exits (λ (r : Result (Vec (Vec Relation Global) Global) (Stop IndexKind)). ReadsAs (λ v. groups_seen v.items) (groups_of c.args.text.now) r) _ _ c.from_residual.ensures.1
    (fails_as (λ (v : Vec Relation Global). relations_seen v.items) (λ (v : Vec (Vec Relation Global) Global). groups_seen v.items)
    (relations_in 124 found.0.now) (groups_of c.args.text.now) _
    (λ kind fault. c.groups.invariant.read ∙ each_fails (relations_in 124) (parts_of 44 c.groups.rest.now) found.0.now part.0 kind (groups_seen c.groups.groups.items) part.1 fault)
    c.in_err-read_relations.ensures)
