use Rattle.std.proofs.Common.{◌-◌, ◌<◌, ◌^◌}
use Rattle.lrat_text.specs.FirstNumbers.{HasDigits}
use Rattle.lrat_text.proofs.number.leading_digits.Given as goal

abbrev pub invariant-digits : goal.invariant-digits
invariant-digits l = record {
  digits : HasDigits l.bytes l.len l.value;
  small : l.value < 10 ^ l.len;
}

abbrev pub decreases-digits : goal.decreases-digits
decreases-digits l = 10 - l.len
