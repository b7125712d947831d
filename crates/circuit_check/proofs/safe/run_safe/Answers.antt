use Rattle.std.proofs.Common.{Ok, ap}
use Rattle.circuit_check.proofs.ClaimLemmas.{safe_text, written_is}
use Rattle.circuit_check.proofs.FaultLemmas.{all_by, parts_fail, safe_run, safe_written}
use Rattle.circuit_check.proofs.safe.run_safe.Goals as goal

pub returns-in-Err-clause-run : goal.returns-in-Err-clause-run
returns-in-Err-clause-run g c = (safe_run _ _ _ c.in-Err.ensures.fault).0

pub returns-in-Err-clause-unwritten : goal.returns-in-Err-clause-unwritten
returns-in-Err-clause-unwritten g c = λ unwritten. absurd ((safe_run _ _ _ c.in-Err.ensures.fault).1 unwritten)

pub returns-in-Err-judge_parts-clause-run : goal.returns-in-Err-judge_parts-clause-run
returns-in-Err-judge_parts-clause-run g c = (parts_fail _ _ c.in-Ok.induction _ c.in-Ok.ensures.induction c.in-Err-judge_parts.ensures.fault).0

pub returns-in-Err-judge_parts-clause-unwritten : goal.returns-in-Err-judge_parts-clause-unwritten
returns-in-Err-judge_parts-clause-unwritten g c = λ unwritten.
    absurd ((parts_fail _ _ c.in-Ok.induction _ c.in-Ok.ensures.induction c.in-Err-judge_parts.ensures.fault).1 unwritten)

pub returns-clause-run : goal.returns-clause-run
returns-clause-run g c =
    safe_written _ _ c.in-Ok.induction c.in-Ok-judge_parts.verdict _ c.in-Ok.ensures.induction
    (all_by _ _ (λ e. c.in-Ok-judge_parts.ensures.refutes (ap (λ v. Ok v) e))) c.write_verdict.ensures.same c.write_verdict.ensures.written

pub returns-clause-unwritten : goal.returns-clause-unwritten
returns-clause-unwritten g c = λ unwritten. record {
  induction = c.in-Ok.induction;
  is = c.in-Ok.ensures.induction;
  verdict = c.in-Ok-judge_parts.verdict;
  shown = all_by _ _ (λ e. c.in-Ok-judge_parts.ensures.refutes (ap (λ v. Ok v) e));
  begins = c.write_verdict.ensures.unwritten unwritten;
}

pub returns-clause-safe : goal.returns-clause-safe
returns-clause-safe g c = λ said e r.
    safe_text (g.A.Read.remaining c.args.machine) (g.B.Read.remaining c.args.invariant) said _ e c.in-Ok.ensures.induction
    (c.in-Ok-judge_parts.ensures.refutes (ap (λ v. Ok v) (written_is _ _ c.write_verdict.ensures.same r)))
