use Rattle.std.proofs.Common.{◌<◌, ◌^◌, drop}
use Rattle.lrat_text.proofs.NumberLemmas.{SoFar}
use Rattle.lrat_text.proofs.number.judged.Given as goal

abbrev pub invariant-digits : goal.invariant-digits
invariant-digits l = record {
  read : SoFar l.digits (drop l.digit-index l.digits) l.value l.large;
  fits : l.value < 2 ^ 64;
}
