use Rattle.std.proofs.Common.{◌≡◌, ◌≤◌, length}
use Rattle.lrat_text.specs.Bytes.{IsLine, words_in}
use Rattle.lrat_text.proofs.words.skip_blanks.Given as goal

abbrev pub invariant-blanks : goal.invariant-blanks
invariant-blanks l = record {
  line : IsLine l.rest;
  words : words_in l.rest ≡ words_in l.fn.bytes;
  len : length l.rest ≤ length l.fn.bytes;
}

abbrev pub decreases-blanks : goal.decreases-blanks
decreases-blanks l = length l.rest
