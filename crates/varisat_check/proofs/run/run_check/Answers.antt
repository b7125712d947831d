use Rattle.varisat_checker.specs.Shown.{state}
use Rattle.varisat_check.proofs.VerdictLemmas.{lives_on, refuted_text, text_added, text_refused, told_run, whole_run, unwritten_run}
use Rattle.varisat_check.proofs.run.run_check.Goals as goal

pub returns-in-Err-clause-run : goal.returns-in-Err-clause-run
returns-in-Err-clause-run g c = text_refused _ c.in-Err.fault (state c.new-checker.result) (state c.add_dimacs_cnf_with_lie.new.self) c.new-checker.ensures.state c.in-Err.ensures.text

pub returns-clause-run : goal.returns-clause-run
returns-clause-run g c =
    let text = text_added _ (state c.new-checker.result) (state c.add_dimacs_cnf_with_lie.new.self) c.new-checker.ensures.state c.in_default.ensures.text in
    whole_run _ _ _ _ _ _ (state c.add_dimacs_cnf_with_lie.new.self) (state c.run_proof.new.checker) c.run_proof.result text
    (c.run_proof.ensures.run (lives_on (state c.add_dimacs_cnf_with_lie.new.self) text.1)) c.run_proof.ensures.verdict c.run_proof.ensures.refutes

pub returns-clause-refutes : goal.returns-clause-refutes
returns-clause-refutes g c =
    let text = text_added _ (state c.new-checker.result) (state c.add_dimacs_cnf_with_lie.new.self) c.new-checker.ensures.state c.in_default.ensures.text in
    λ bytes known h. refuted_text _ bytes (state c.add_dimacs_cnf_with_lie.new.self) known text (c.run_proof.ensures.refutes h)

pub returns-clause-unwritten : goal.returns-clause-unwritten
returns-clause-unwritten g c =
    let text = text_added _ (state c.new-checker.result) (state c.add_dimacs_cnf_with_lie.new.self) c.new-checker.ensures.state c.in_default.ensures.text in
    unwritten_run _ _ _ _ _ _ (state c.add_dimacs_cnf_with_lie.new.self) (state c.run_proof.new.checker) c.run_proof.result
    (g.W.Write.contents c.args.out.now) (g.W.Write.contents c.run_proof.new.out) text
    (c.run_proof.ensures.run (lives_on (state c.add_dimacs_cnf_with_lie.new.self) text.1)) c.run_proof.ensures.unwritten

pub returns-clause-lie : goal.returns-clause-lie
returns-clause-lie g c =
    let text = text_added _ (state c.new-checker.result) (state c.add_dimacs_cnf_with_lie.new.self) c.new-checker.ensures.state c.in_default.ensures.text in
    told_run _ _ _ _ (g.F.Read.remaining c.args.cnf) _ (state c.add_dimacs_cnf_with_lie.new.self) (state c.run_proof.new.checker)
    c.run_proof.result c.add_dimacs_cnf_with_lie.new.lie
    (c.run_proof.ensures.run (lives_on (state c.add_dimacs_cnf_with_lie.new.self) text.1)) c.in_default.ensures.lie
