use Rattle.std.proofs.Common.{refl}
use Rattle.std.proofs.lemmas.Result.{IfErr-weaker, err_from_is_err_and}
use Rattle.circuit_clauses.specs.declared.induction.Part.TheVariants.{Initial, Step, Bad}
use Rattle.circuit_check.proofs.ClaimLemmas.{all_written}
use Rattle.circuit_check.proofs.FaultLemmas.{stopped_at}
use Rattle.circuit_check.proofs.safe.write_safe.Goals as goal

pub returns-in_err-write_part-clause-fault : goal.returns-in_err-write_part-clause-fault
returns-in_err-write_part-clause-fault g c =
    let p = err_from_is_err_and c.from_residual.result c.from_residual.ensures.1 in
    rw (p.1, p.2)
    (stopped_at (g.A.Read.remaining c.args.machine) (g.B.Read.remaining c.args.invariant) g.W.Write.contents c.args.initial.now c.write_part.new.out c.args.step.now
    c.args.step.now c.args.bad.now c.args.bad.now c.in-Ok.induction _ Initial c.in-Ok.ensures.induction (c.in_err-write_part.ensures.fault, refl, refl))

pub returns-in_err-write_part-2-clause-fault : goal.returns-in_err-write_part-2-clause-fault
returns-in_err-write_part-2-clause-fault g c =
    let p = err_from_is_err_and c.from_residual-in_err-write_part-2.result c.from_residual-in_err-write_part-2.ensures.1 in
    rw (p.1, p.2)
    (stopped_at (g.A.Read.remaining c.args.machine) (g.B.Read.remaining c.args.invariant) g.W.Write.contents c.args.initial.now c.write_part.new.out c.args.step.now
    c.write_part-2.new.out c.args.bad.now c.args.bad.now c.in-Ok.induction _ Step c.in-Ok.ensures.induction
    (c.in_ok-write_part.ensures.whole, c.in_err-write_part-2.ensures.fault, refl))

pub returns-clause-whole : goal.returns-clause-whole
returns-clause-whole g c =
    all_written c.write_part-3.result (g.A.Read.remaining c.args.machine) (g.B.Read.remaining c.args.invariant) _ _ _ _ _ _ c.in-Ok.induction
    c.in-Ok.ensures.induction c.in_ok-write_part.ensures.whole c.in_ok-write_part-2.ensures.whole c.write_part-3.ensures.whole

pub returns-clause-fault : goal.returns-clause-fault
returns-clause-fault g c =
    IfErr-weaker c.write_part-3.result _ _
    (λ fault stopped.
    stopped_at _ _ g.W.Write.contents _ _ _ _ _ _ c.in-Ok.induction fault Bad c.in-Ok.ensures.induction
    (c.in_ok-write_part.ensures.whole, c.in_ok-write_part-2.ensures.whole, stopped))
    c.write_part-3.ensures.fault
