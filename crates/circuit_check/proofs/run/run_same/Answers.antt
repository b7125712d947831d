use Rattle.std.proofs.Common.{Ok, ap}
use Rattle.circuit_check.specs.Claims.{IsSameFormula}
use Rattle.circuit_check.specs.Reads.{FailsSame}
use Rattle.circuit_check.proofs.ClaimLemmas.{same_text, written_is}
use Rattle.circuit_check.proofs.FaultLemmas.{claim_written, same_run, shown_by}
use Rattle.circuit_check.proofs.run.run_same.Goals as goal

pub returns-in-Err-clause-run : goal.returns-in-Err-clause-run
returns-in-Err-clause-run g c = (same_run _ _ _ _ c.in-Err.ensures.fault).0

pub returns-in-Err-clause-unwritten : goal.returns-in-Err-clause-unwritten
returns-in-Err-clause-unwritten g c = λ unwritten. absurd ((same_run _ _ _ _ c.in-Err.ensures.fault).1 unwritten)

pub returns-in-Err-check_proof-clause-run : goal.returns-in-Err-check_proof-clause-run
returns-in-Err-check_proof-clause-run g c = (c.in-Ok.formula, c.in-Ok.ensures.formula, c.in-Err-check_proof.ensures.run)

pub returns-clause-run : goal.returns-clause-run
returns-clause-run g c =
    claim_written (IsSameFormula c.args.pair.pairing c.args.pair.text.now c.args.pair.other.now)
    (FailsSame c.args.pair.pairing c.args.pair.text.now c.args.pair.other.now) c.in-Ok.formula c.in-Ok-check_proof.verdict _ c.in-Ok.ensures.formula
    (shown_by c.in-Ok.formula c.in-Ok-check_proof.verdict (λ e. c.in-Ok-check_proof.ensures.refutes (ap (λ v. Ok v) e))) c.write_verdict.ensures.same c.write_verdict.ensures.written

pub returns-clause-unwritten : goal.returns-clause-unwritten
returns-clause-unwritten g c = λ unwritten. record {
  formula = c.in-Ok.formula;
  is = c.in-Ok.ensures.formula;
  verdict = c.in-Ok-check_proof.verdict;
  shown = shown_by c.in-Ok.formula c.in-Ok-check_proof.verdict (λ e. c.in-Ok-check_proof.ensures.refutes (ap (λ v. Ok v) e));
  begins = c.write_verdict.ensures.unwritten unwritten;
}

pub returns-clause-same : goal.returns-clause-same
returns-clause-same g c = λ r.
    same_text c.args.pair.pairing c.args.pair.text.now c.args.pair.other.now _ c.in-Ok.ensures.formula
    (c.in-Ok-check_proof.ensures.refutes (ap (λ v. Ok v) (written_is _ _ c.write_verdict.ensures.same r)))
