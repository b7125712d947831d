use Rattle.std.proofs.Common.{◌≡◌, ℕ, ◌<◌, ◌-◌, false, length}
use Rattle.std.specs.Prelude.{slice_index}
use Rattle.lrat_text.specs.Bytes.{ends_word}
use Rattle.lrat_text.proofs.words.word_len.Given as goal

abbrev pub invariant-bytes : goal.invariant-bytes
invariant-bytes l = record {
  len : l.len < length l.bytes;
  word : (k : ℕ) → k < l.len → ends_word (slice_index l.bytes k) ≡ false;
}

abbrev pub decreases-bytes : goal.decreases-bytes
decreases-bytes l = length l.bytes - l.len
