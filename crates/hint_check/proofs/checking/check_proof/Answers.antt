use Rattle.std.proofs.Common.{refl}
use Rattle.hint_check.proofs.LineLemmas.{proof_accepted, proof_refused}
use Rattle.hint_check.proofs.checking.check_proof.Goals as goal

pub take_proof-requires : goal.take_proof-requires
take_proof-requires g c = record { fresh = record { leads = λ h e. (h, refl, e); small = λ s. s } }

pub returns-in-Ok-clause-accepted : goal.returns-in-Ok-clause-accepted
returns-in-Ok-clause-accepted g c = λ h held.
    let t = c.in-Ok.ensures in
    (t.0, t.1, proof_accepted t.0 (g.H.Read.remaining c.args.proof) h c.args.checker c.take_proof.new.sink held t.2 c.added_empty.result c.added_empty.ensures)

pub returns-clause-refused : goal.returns-clause-refused
returns-clause-refused g c = λ h held.
    let t = c.in-Err.ensures in
    (t.0, t.1, rw c.from.ensures (proof_refused t.0 (g.H.Read.remaining c.args.proof) h c.args.checker c.take_proof.new.sink held c.in-Err.untaken t.2))
