use Rattle.std.proofs.Common.{◌≡◌, None, Ok, Some, refl, sym, ◌∙◌}
use Rattle.sat_output.specs.declared.form.LineForm.TheVariants.{Text}
use Rattle.verdicts.specs.declared.verdict.Verdict.TheVariants.{Verified}
use Rattle.c_library.proofs.DratOutputs.{both_written, places_core, places_lrat}
use Rattle.c_library.proofs.VerifiedRuns.{drat_verified}
use Rattle.c_library.proofs.drat.cefindrato_drat_check.Goals as goal

pub returns-clause-refutes : goal.returns-clause-refutes
returns-clause-refutes c = λ is. c.run_check-outcome.ensures.refutes c.args.cnf.now refl (drat_verified c.run_check-outcome.result (sym c.answer_to.ensures.status ∙ is))

pub returns-clause-outputs : goal.returns-clause-outputs
returns-clause-outputs c = λ is.
    let verified = drat_verified c.run_check-outcome.result (sym c.answer_to.ensures.status ∙ is) in
    let written = both_written (Some c.args.cnf.now)
    (record { lrat = c.output.result; form = Text; trim = None; core = c.output-2.result; counts = _ }) c.run_check-outcome.new.outputs
    c.run_check-outcome.result verified c.run_check-outcome.ensures.outputs in
    record {
      formula = written.formula;
      whole = written.whole;
      holds = (
        λ wanted. places_lrat written.formula _ _ _ _ _ _ _ (c.output.ensures wanted) written.holds.0 (c.answer_to.ensures.lrat verified wanted),
        λ wanted. places_core written.formula _ _ _ _ _ (c.output-2.ensures wanted) written.holds.1 (c.answer_to.ensures.core verified wanted),
      );
    }
