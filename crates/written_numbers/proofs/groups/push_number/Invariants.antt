use Rattle.std.proofs.Common.{◌≡◌, ◌-◌, ◌*◌, ◌^◌, ◌<◌, ◌++◌}
use Rattle.written_numbers.specs.GroupedBytes.{groups, number_bytes}
use Rattle.written_numbers.specs.Growing.{Grows}
use Rattle.written_numbers.proofs.groups.push_number.Given as goal

abbrev pub invariant-groups : goal.invariant-groups
invariant-groups l = record {
  spelled : l.bytes.items ++ groups (9 - l.counter) l.rest ≡ l.fn.bytes.items ++ number_bytes l.number;
  small : l.rest < 2 ^ (64 - 7 * l.counter);
  grows : Grows l.fn.bytes.items l.bytes.items;
}
