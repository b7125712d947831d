use Rattle.std.proofs.Common.{◌≡◌, length}
use Rattle.index_text.specs.Lists.{relations_in}
use Rattle.index_text.specs.Reading.{relations_seen}
use Rattle.index_text.proofs.ListLemmas.{with_front}
use Rattle.index_text.proofs.lists.read_relations.Given as goal

abbrev pub invariant-parts : goal.invariant-parts
invariant-parts l = record {
  read : relations_in l.separator l.fn.text ≡ with_front (relations_seen l.relations.items) (relations_in l.separator l.rest);
}

abbrev pub decreases-parts : goal.decreases-parts
decreases-parts l = length l.rest
