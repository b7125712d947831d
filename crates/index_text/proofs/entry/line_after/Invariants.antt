use Rattle.std.proofs.Common.{◌≡◌, drop}
use Rattle.index_text.specs.Entries.{line_after}
use Rattle.index_text.proofs.entry.line_after.Given as goal

abbrev pub invariant-bytes : goal.invariant-bytes
invariant-bytes l = line_after l.last (drop l.byte-index l.entry) ≡ line_after l.line l.entry
