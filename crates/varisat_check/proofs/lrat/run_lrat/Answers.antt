use Rattle.std.proofs.Common.{ap, subst}
use Rattle.varisat_checker.specs.Shown.{listeners, state}
use Rattle.varisat_check.specs.LratRuns.{LratRun, StopsInTurn}
use Rattle.varisat_check.specs.Verdicts.{shown_line}
use Rattle.varisat_check.proofs.LratLemmas.{counted, formula_refuted, fresh_run, processor_refused, proof_refused, taken}
use Rattle.varisat_check.proofs.lrat.run_lrat.Given.{Over}
use Rattle.varisat_check.proofs.lrat.run_lrat.Goals as goal
use Rattle.varisat_check.proofs.lrat.run_lrat.Goals.{After-swap_remove-writer}

pub returns-in-Err-clause-refused : goal.returns-in-Err-clause-refused
returns-in-Err-clause-refused g c = processor_refused c.args.formula.now c.in-Err.fault
    (state c.new-checker.result) c.new-checker.ensures.state (λ running. ap (λ p. p.1) (c.in-Err.ensures.returned running))

pub returns-in-Err-check_proof-clause-refused : goal.returns-in-Err-check_proof-clause-refused
returns-in-Err-check_proof-clause-refused g c =
    proof_refused (g.R.Read.remaining c.args.proof) c.args.formula.now c.in-Err-check_proof.fault _ _ (state c.add_formula.new.self) (state c.check_proof.new.self)
    (c.new-checker.ensures.state, c.in_default.ensures.state, c.in_default-add_formula.ensures.steps) c.in-Err-check_proof.ensures.run

pub verdict_after-verdict-requires : goal.verdict_after-verdict-requires
verdict_after-verdict-requires g c =
    counted c.args.formula.now (g.R.Read.remaining c.args.proof) _ _ (state c.add_formula.new.self) (state c.check_proof.new.self) c.input_clauses-inputs.result
    (c.new-checker.ensures.state, c.in_default.ensures.state, c.in_default-add_formula.ensures.steps) c.in_default-check_proof.ensures.run c.input_clauses-inputs.ensures

-- the whole run, and what the processor took of it
ran : (g : Over) (c : After-swap_remove-writer g) →
    LratRun g.P.ProofProcessor.took (g.R.Read.remaining c.args.proof) c.args.formula.now c.args.writer c.verdict_after-verdict.result c.swap_remove-writer.result
ran g c =
    taken g.P.ProofProcessor.took _ _ _ _ _ (listeners c.check_proof.new.self).processors c.into_processors-processors.result.0.items
    (fresh_run g.P.ProofProcessor _ c.args.formula.now (g.R.Read.remaining c.args.proof) c.args.writer
    (listeners c.new-checker.result) (listeners c.add_processor.new.self) (listeners c.add_formula.new.self)
    (listeners c.check_proof.new.self)
    (state c.new-checker.result) (state c.add_processor.new.self) (state c.add_formula.new.self) (state c.check_proof.new.self) c.input_clauses-inputs.result c.verdict_after-verdict.result
    c.new-checker.ensures.state c.new-checker.ensures.processors c.in_default.ensures.state c.in_default.ensures.registered
    c.in_default-add_formula.ensures.steps c.in_default-check_proof.ensures.run c.in_default-add_formula.ensures.delivered
    c.in_default-add_formula.ensures.certified c.input_clauses-inputs.ensures c.verdict_after-verdict.ensures)
    c.into_processors-processors.ensures.processors c.swap_remove-writer.ensures.value

pub returns-in-Ok-clause-run : goal.returns-in-Ok-clause-run
returns-in-Ok-clause-run g c = ran g (goal.at.returns-in-Ok-clause-run g c).After-swap_remove-writer

pub returns-in-Ok-clause-refutes : goal.returns-in-Ok-clause-refutes
returns-in-Ok-clause-refutes g c =
    formula_refuted c.args.formula.now (g.R.Read.remaining c.args.proof) _ _ (state c.add_formula.new.self) (state c.check_proof.new.self) c.input_clauses-inputs.result c.verdict_after-verdict.result
    (c.new-checker.ensures.state, c.in_default.ensures.state, c.in_default-add_formula.ensures.steps)
    c.in_default-add_formula.ensures.covers c.in_default-check_proof.ensures.run c.input_clauses-inputs.ensures
    c.verdict_after-verdict.ensures

pub returns-clause-unwritten : goal.returns-clause-unwritten
returns-clause-unwritten g c = λ _.
    let line = shown_line c.verdict_after-verdict.result in
    record {
      verdict = c.verdict_after-verdict.result;
      after = c.swap_remove-writer.result;
      run = ran g (goal.at.returns-clause-unwritten g c).After-swap_remove-writer;
      stops = subst
          (λ output. StopsInTurn (g.V.Write.contents c.args.lrat.now) (g.V.Write.contents c.write_both.new.lrat) output (g.W.Write.contents c.args.out.now) (g.W.Write.contents c.write_both.new.out) line)
          c.output.ensures c.in-Err-write_both.ensures.stops;
    }
