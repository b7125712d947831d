use Rattle.std.proofs.Common.{◌≡◌, length}
use Rattle.index_text.specs.Lists.{groups_of}
use Rattle.index_text.specs.Reading.{groups_seen}
use Rattle.index_text.proofs.ListLemmas.{with_front}
use Rattle.index_text.proofs.lists.read_groups.Given as goal

abbrev pub invariant-groups : goal.invariant-groups
invariant-groups l = record {
  read : groups_of l.fn.text ≡ with_front (groups_seen l.groups.items) (groups_of l.rest);
}

abbrev pub decreases-groups : goal.decreases-groups
decreases-groups l = length l.rest
