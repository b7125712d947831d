use Rattle.std.proofs.Common.{◌-◌, ◌^◌, ◌<◌, ◌≤◌}
use Rattle.sat_formula.specs.ShortNumbers.{HasDigits}
use Rattle.sat_formula.proofs.ahead.few_digits.Given as goal

abbrev pub invariant-digits : goal.invariant-digits
invariant-digits l = record {
  few : l.len ≤ 9;
  bounded : l.value < 10 ^ 9;
  digits : HasDigits l.bytes l.len l.value;
}

abbrev pub decreases-digits : goal.decreases-digits
decreases-digits l = 9 - l.len
