use Rattle.std.proofs.Common.{Ok, Err, refl, sym}
use Rattle.lrat_to_proof.specs.Faults.{in_line, of_text}
use Rattle.lrat_to_proof.specs.Runs.{proof_says}
use Rattle.lrat_to_proof.proofs.LineLemmas.{converts, converts_as, stopped, unread}
use Rattle.lrat_to_proof.proofs.run.convert_lines.Goals as goal

pub take_proof-requires : goal.take_proof-requires
take_proof-requires g c = record { fresh = (refl, refl, λ width start d h. (d, refl, h)) }

pub returns-in-Ok : goal.returns-in-Ok
returns-in-Ok g c = λ width start d h.
    let known = g.P.Read.remaining c.args.proof in
    let now = c.take_proof.new.sink in
    let t = c.in-Ok.ensures in
    converts_as g.W.Write.contents (proof_says c.args.ids c.args.clauses) known width d start _ now.out.now _ now.converter.now (Ok tt) (c.out-1.given.1 (sym t.2.1.1)) (c.converter-1.given.1 (sym t.2.1.0))
    (converts c.args.ids c.args.clauses known t.0 t.1 width d start (g.W.Write.contents now.out.now) t.2.0 now.converter.now (t.2.1.2 width start d h) t.2.2)

pub returns-in-Err-Proof : goal.returns-in-Err-Proof
returns-in-Err-Proof g c = λ width start d h.
    let known = g.P.Read.remaining c.args.proof in
    let now = c.take_proof.new.sink in
    let t = rw c.in-Err-Proof.field-0-is at c.in-Err-Proof.ensures in
    rw c.unread.ensures (converts_as g.W.Write.contents (proof_says c.args.ids c.args.clauses) known width d start _ now.out.now _ now.converter.now (Err (of_text c.in-Err-Proof.fault))
    (c.out-1.given.1 (sym t.2.1.1)) (c.converter-1.given.1 (sym t.2.1.0))
    (unread c.args.ids c.args.clauses known t.0 t.1 width d start (g.W.Write.contents now.out.now) t.2.0 now.converter.now (t.2.1.2 width start d h) t.2.2 c.in-Err-Proof.fault t.2.3))

pub returns-in-Err-Sink : goal.returns-in-Err-Sink
returns-in-Err-Sink g c = λ width start d h.
    let known = g.P.Read.remaining c.args.proof in
    let now = c.take_proof.new.sink in
    let t = rw c.in-Err-Sink.field-0-is at c.in-Err-Sink.ensures in
    rw c.in_line.ensures (converts_as g.W.Write.contents (proof_says c.args.ids c.args.clauses) known width d start _ now.out.now _ now.converter.now
    (Err (in_line c.in-Err-Sink.fault c.in-Err-Sink.line)) (c.out-1.given.1 (sym t.2.2.1)) (c.converter-1.given.1 (sym t.2.2.0))
    (stopped c.args.ids c.args.clauses known t.0 t.1 width d start (g.W.Write.contents now.out.now) t.2.0 c.in-Err-Sink.line t.2.1 t.2.3 c.in-Err-Sink.fault (t.2.2.2 width start d h)))
