use Rattle.std.proofs.Common.{◌≡◌, false, rules}
use Rattle.session_check.specs.Lines.{is_told}
use Rattle.session_check.proofs.JoinLemmas.{own_read, proof_fault, proof_line}
use Rattle.session_check.proofs.lines.SessionLines.next_of_proof.Goals as goal

pub returns-in-Ok-Some-clause-reads : goal.returns-in-Ok-Some-clause-reads
returns-in-Ok-Some-clause-reads g c known lines h =
    c.repeat.ensures.reads known lines
    (proof_line g.P.Read.remaining g.I.Read.remaining known lines c.args.self.now.proof c.next_line.new.self c.args.self.now.interaction c.args.self.now.ahead c.in-Ok-Some.kind
    (rw c.in-Ok-Some.field-0-is at c.in-Ok-Some.ensures.reads) h)

pub returns-in-Ok-Some-2-clause-reads : goal.returns-in-Ok-Some-2-clause-reads
returns-in-Ok-Some-2-clause-reads g c known lines h =
    let own : is_told c.in-Ok-Some.kind ≡ false = search rules in
    own_read g.P.Read.remaining g.I.Read.remaining known lines c.next_line.new.self c.args.self.now.interaction c.args.self.now.ahead c.in-Ok-Some.kind own
    (proof_line g.P.Read.remaining g.I.Read.remaining known lines c.args.self.now.proof c.next_line.new.self c.args.self.now.interaction c.args.self.now.ahead c.in-Ok-Some.kind
    (rw c.in-Ok-Some.field-0-is at c.in-Ok-Some.ensures.reads) h)

pub returns-in-Err-clause-reads : goal.returns-in-Err-clause-reads
returns-in-Err-clause-reads g c known lines h =
    proof_fault g.P.Read.remaining g.I.Read.remaining known lines c.args.self.now.proof c.next_line.new.self c.args.self.now.interaction c.args.self.now.ahead c.in-Err.fault
    c.in-Err.ensures.reads h
