use Rattle.std.proofs.Common.{◌≡◌, ◌+◌, ◌-◌, ◌*◌, ◌^◌, ◌<◌, ◌≤◌}
use Rattle.proof_bytes.specs.Taking.{unread_fields, Leads}
use Rattle.proof_bytes.specs.Reading.{number_at, more_at}
use Rattle.proof_bytes.proofs.fields.Fields.number_by_bytes.Given as goal

abbrev pub invariant-groups : goal.invariant-groups
invariant-groups g l = record {
  weight : l.weight ≡ 2 ^ (7 * l.counter + 7);
  bounded : l.counter < 8 → l.weight ≤ 2 ^ 56;
  small : l.value < l.weight;
  leads : Leads (unread_fields g.R.Read.remaining l.fn.self) (unread_fields g.R.Read.remaining l.self) number_at (more_at (8 - l.counter) l.value l.weight);
}
