use Rattle.std.proofs.Common.{◌≡◌, ℕ, ◌<◌, ◌≤◌, ◌-◌, true, length}
use Rattle.std.specs.Prelude.{slice_index}
use Rattle.index_text.specs.Classes.{is_of}
use Rattle.index_text.proofs.class.class_len.Given as goal

abbrev pub invariant-bytes : goal.invariant-bytes
invariant-bytes l = record {
  within : l.len ≤ length l.bytes;
  pass : (k : ℕ) → k < l.len → is_of l.class (slice_index l.bytes k) ≡ true;
}

abbrev pub decreases-bytes : goal.decreases-bytes
decreases-bytes l = length l.bytes - l.len
