use Rattle.std.proofs.Common.{◌≡◌, ℕ, ◌+◌, ◌<◌, ◌≤◌, ◌-◌, false, drop, length}
use Rattle.std.specs.Prelude.{slice_index}
use Rattle.index_text.specs.Entries.{ends_entry}
use Rattle.index_text.proofs.entry.entry_len.Given as goal

abbrev pub invariant-bytes : goal.invariant-bytes
invariant-bytes l = record {
  within : l.len ≤ length l.text;
  inside : (k : ℕ) → k < l.len → ends_entry (slice_index l.text k) (drop (k + 1) l.text) ≡ false;
}

abbrev pub decreases-bytes : goal.decreases-bytes
decreases-bytes l = length l.text - l.len
