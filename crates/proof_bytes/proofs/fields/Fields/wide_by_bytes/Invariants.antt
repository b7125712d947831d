use Rattle.std.proofs.Common.{◌≡◌, ◌-◌, ◌*◌, ◌^◌, ◌<◌, ◌≤◌}
use Rattle.proof_bytes.specs.Taking.{unread_fields, Leads}
use Rattle.proof_bytes.specs.Formats.{bytes_of}
use Rattle.proof_bytes.specs.Fields.{wide_at}
use Rattle.proof_bytes.proofs.Wide.{rest_at}
use Rattle.proof_bytes.proofs.fields.Fields.wide_by_bytes.Given as goal

abbrev pub invariant-bytes : goal.invariant-bytes
invariant-bytes g l = record {
  weight : l.weight ≡ 2 ^ (8 * l.counter);
  bounded : l.weight ≤ 2 ^ 56;
  small : l.value < l.weight;
  leads : Leads (unread_fields g.R.Read.remaining l.fn.self) (unread_fields g.R.Read.remaining l.self) (wide_at l.width) (rest_at l.width (bytes_of l.width - l.counter) l.value l.weight);
}
