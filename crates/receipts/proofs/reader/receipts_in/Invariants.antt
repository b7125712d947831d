use Rattle.std.proofs.Common.{◌≡◌, ◌-◌, ◌≤◌, take, length}
use Rattle.receipts.specs.Lines.{receipts_text}
use Rattle.receipts.proofs.reader.receipts_in.Given as goal

-- what was read so far is the text of these receipts
abbrev pub invariant-lines : goal.invariant-lines
invariant-lines l = record {
  read : take l.at l.text ≡ receipts_text l.receipts.items;
  within : l.at ≤ length l.text;
}

abbrev pub decreases-lines : goal.decreases-lines
decreases-lines l = length l.text - l.at
