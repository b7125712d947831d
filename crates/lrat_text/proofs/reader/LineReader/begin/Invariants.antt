use Rattle.std.proofs.Common.{◌≡◌, ◌≤◌, true, false}
use Rattle.lrat_text.specs.NextLine.{has_ended, work_left, rest_of, CountsBytes, Reads}
use Rattle.lrat_text.proofs.reader.LineReader.begin.Given as goal

abbrev pub invariant-lines : goal.invariant-lines
invariant-lines g l = record {
  reads : has_ended l.fn.self ≡ false → Reads g.R.Read.remaining l.fn.self l.self (has_ended l.self) (rest_of l.self);
  stays : has_ended l.fn.self ≡ true → l.self ≡ l.fn.self;
  counts : has_ended l.self ≡ false → CountsBytes l.fn.self l.self;
  work : work_left l.self ≤ work_left l.fn.self;
}

abbrev pub decreases-lines : goal.decreases-lines
decreases-lines g l = work_left l.self
