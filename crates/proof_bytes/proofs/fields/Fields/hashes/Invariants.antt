use Rattle.std.proofs.Common.{◌-◌}
use Rattle.proof_bytes.specs.Taking.{unread_fields, Leads}
use Rattle.proof_bytes.specs.Fields.{list_at, many_at, hash_at}
use Rattle.proof_bytes.proofs.FieldLemmas.{with_front}
use Rattle.proof_bytes.proofs.fields.Fields.hashes.Given as goal

abbrev pub invariant-hashes : goal.invariant-hashes
invariant-hashes g l = Leads (unread_fields g.R.Read.remaining l.fn.self) (unread_fields g.R.Read.remaining l.self)
    (list_at (hash_at l.format)) (λ more. with_front l.into.items (many_at (hash_at l.format) (l.count - l.counter) more))
