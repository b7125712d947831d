use Rattle.std.proofs.Common.{◌≤◌}
use Rattle.drat_text.specs.Taking.{room_in, unread_bytes}
use Rattle.drat_text.specs.declared.bytes.Format.TheVariants.{Text}
use Rattle.drat_text.specs.Places.{InNumber, Digits, first_digit}
use Rattle.drat_text.specs.Proofs.{outcome_at}
use Rattle.drat_text.specs.Reading.{goes_on}
use Rattle.drat_text.specs.Taking.{Leads}
use Rattle.drat_text.proofs.text.digits.Given as goal

abbrev pub invariant-digits : goal.invariant-digits
invariant-digits g l = record {
  room : room_in l.bytes ≤ room_in l.fn.bytes;
  read : (slot : g.G.Grammar.Slot) → Leads (unread_bytes g.R.Read.remaining l.fn.bytes) (unread_bytes g.R.Read.remaining l.bytes)
      (goes_on g.G.Grammar.rules Text (first_digit slot l.negative l.first)) (outcome_at g.G.Grammar.rules Text (InNumber slot (Digits l.negative l.value)));
}

abbrev pub decreases-digits : goal.decreases-digits
decreases-digits g l = room_in l.bytes
