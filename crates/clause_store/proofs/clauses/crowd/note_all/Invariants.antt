use Rattle.std.proofs.Common.{◌+◌, ◌≤◌}
use Rattle.std.specs.BTreeMap.{btree_map_len}
use Rattle.clause_store.proofs.clauses.crowd.note_all.Given as goal

abbrev pub invariant-loop-at : goal.invariant-loop-at
invariant-loop-at l = btree_map_len l.noted ≤ btree_map_len l.initial.noted + l.at
