use Rattle.std.proofs.Common.{◌≡◌, length}
use Rattle.index_text.specs.Entries.{entries_of}
use Rattle.index_text.specs.Stanzas.{stanzas_from, stanzas_of}
use Rattle.index_text.specs.Taking.{so_far_seen}
use Rattle.index_text.proofs.stanzas.read_stanzas.Given as goal

abbrev pub invariant-entries : goal.invariant-entries
invariant-entries l = record {
  read : stanzas_of l.fn.text ≡ stanzas_from l.line (so_far_seen l.so_far) (entries_of l.rest);
}

abbrev pub decreases-entries : goal.decreases-entries
decreases-entries l = length l.rest
