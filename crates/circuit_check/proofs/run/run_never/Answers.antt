use Rattle.std.proofs.Common.{Ok, ap}
use Rattle.circuit_check.specs.Claims.{IsNeverFormula}
use Rattle.circuit_check.specs.Reads.{FailsNever}
use Rattle.circuit_check.proofs.ClaimLemmas.{never_text, written_is}
use Rattle.circuit_check.proofs.FaultLemmas.{claim_written, never_run, shown_by}
use Rattle.circuit_check.proofs.run.run_never.Goals as goal

pub returns-in-Err-clause-run : goal.returns-in-Err-clause-run
returns-in-Err-clause-run g c = (never_run _ _ c.in-Err.ensures.fault).0

pub returns-in-Err-clause-unwritten : goal.returns-in-Err-clause-unwritten
returns-in-Err-clause-unwritten g c = λ unwritten. absurd ((never_run _ _ c.in-Err.ensures.fault).1 unwritten)

pub returns-in-Err-check_proof-clause-run : goal.returns-in-Err-check_proof-clause-run
returns-in-Err-check_proof-clause-run g c = (c.in-Ok.formula, c.in-Ok.ensures.formula, c.in-Err-check_proof.ensures.run)

pub returns-clause-run : goal.returns-clause-run
returns-clause-run g c =
    claim_written (IsNeverFormula (g.A.Read.remaining c.args.text)) (FailsNever (g.A.Read.remaining c.args.text)) c.in-Ok.formula c.in-Ok-check_proof.verdict _ c.in-Ok.ensures.formula
    (shown_by c.in-Ok.formula c.in-Ok-check_proof.verdict (λ e. c.in-Ok-check_proof.ensures.refutes (ap (λ v. Ok v) e))) c.write_verdict.ensures.same c.write_verdict.ensures.written

pub returns-clause-unwritten : goal.returns-clause-unwritten
returns-clause-unwritten g c = λ unwritten. record {
  formula = c.in-Ok.formula;
  is = c.in-Ok.ensures.formula;
  verdict = c.in-Ok-check_proof.verdict;
  shown = shown_by c.in-Ok.formula c.in-Ok-check_proof.verdict (λ e. c.in-Ok-check_proof.ensures.refutes (ap (λ v. Ok v) e));
  begins = c.write_verdict.ensures.unwritten unwritten;
}

pub returns-clause-never : goal.returns-clause-never
returns-clause-never g c = λ said e r.
    never_text (g.A.Read.remaining c.args.text) said _ e c.in-Ok.ensures.formula
    (c.in-Ok-check_proof.ensures.refutes (ap (λ v. Ok v) (written_is _ _ c.write_verdict.ensures.same r)))
