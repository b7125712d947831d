use Rattle.varisat_checker.proofs.Common.{common_steps, context_state}
use Rattle.std.proofs.Common.{◌≡◌, ℕ, ◌+◌, ◌-◌, ◌<◌, ◌^◌, refl, sym, ◌∙◌, arith}
use Rattle.std.proofs.lemmas.Bool.{true≢false}
use Rattle.proof_bytes.proofs.TextRuns.{MayRead, reader_open}
use Rattle.checker_steps.proofs.CallAnswers.{error-answers, error-delivered, error-unless}
use Rattle.checker_steps.proofs.StepAnswers.{no-number, not-exhausted, some-number}
use Rattle.varisat_checker.proofs.CountLemmas.{attempt-steps}
use Rattle.varisat_checker.proofs.RunDelivered.{delivered-begins, delivered-closes, delivered-exhausted, delivered-faulted, delivered-goes, delivered-refused}
use Rattle.varisat_checker.proofs.proof.check_proof.Goals as goal

pub steps-init : goal.steps-init
steps-init g c = record {
  open_reader = λ _. c.new-reader.ensures.ended;
  kept = c.requires;
  so_far = delivered-begins c.new-reader.ensures.bytes c.new-reader.ensures.format;
  ended = λ e. e;
  exhausted = λ e. e;
}

fewer-left : (a b : ℕ) → a < 2 ^ 64 → (a ≡ 2 ^ 64 - 1 → ⊥) → b ≡ a + 1 → 2 ^ 64 - 1 - b < 2 ^ 64 - 1 - a
fewer-left a b fits some e = omega (arith, fits, some, e)

pub steps-smaller : goal.steps-smaller
steps-smaller g c = grind (arith, common_steps, some-number, fewer-left, attempt-steps)

pub steps-preserved : goal.steps-preserved
steps-preserved g c =
    let may : MayRead (context_state c.steps.ctx) = record { going = c.steps-test.true; counted = some-number _ (omega arith) c.if-ctx.false } in
    let gave = rw c.in-Ok.is at c.next_step.follows.holds-at-none in
    let h = rw c.in_default.is at c.take_counted.ensures.step in
    record {
      open_reader = λ still. reader_open _ _ gave.ended may h.1 still;
      kept = c.in_default.ensures.kept;
      so_far = delivered-goes c.steps.invariant.so_far (gave.reads (c.steps.invariant.open_reader c.steps-test.true)) may h
          (rw c.in_default.is at c.take_counted.ensures.delivered);
      ended = λ e. absurd (true≢false (sym (c.steps.invariant.ended e) ∙ c.steps-test.true));
      exhausted = λ none. absurd (not-exhausted _ (omega arith) c.if-ctx.false (c.steps.invariant.exhausted none));
    }

pub returns-then-ctx-clause-run : goal.returns-then-ctx-clause-run
returns-then-ctx-clause-run g c =
    delivered-exhausted c.steps.invariant.so_far c.requires.form c.refusal.ensures c.steps-test.true (no-number _ c.if-ctx.true)

pub returns-in-Err-take_counted-clause-run : goal.returns-in-Err-take_counted-clause-run
returns-in-Err-take_counted-clause-run g c =
    let may : MayRead (context_state c.steps.ctx) = record { going = c.steps-test.true; counted = some-number _ (omega arith) c.if-ctx.false } in
    let gave = rw c.in-Ok.is at c.next_step.follows.holds-at-none in
    rw c.step_error.ensures.listeners
    (delivered-refused c.steps.invariant.so_far c.requires.form (gave.reads (c.steps.invariant.open_reader c.steps-test.true)) may
    (error-answers _ _ _ _ _ c.step_error.ensures.error refl c.in-Err-take_counted.ensures.step)
    (error-delivered g.P.ProofProcessor g.T.ProofTranscriptProcessor _ _ _ _ _ _ c.step_error.ensures.error c.in-Err-take_counted.ensures.delivered))

pub returns-in-Err-take_counted-clause-kept : goal.returns-in-Err-take_counted-clause-kept
returns-in-Err-take_counted-clause-kept g c =
    error-unless _ _ c.in-Err-take_counted.fault c.step_error.result c.step_error.ensures.error c.in-Err-take_counted.ensures.kept

pub returns-in-Err-clause-run : goal.returns-in-Err-clause-run
returns-in-Err-clause-run g c =
    let may : MayRead (context_state c.steps.ctx) = record { going = c.steps-test.true; counted = some-number _ (omega arith) c.if-ctx.false } in
    let gave = rw c.in-Err.is at c.next_step.follows.holds-at-none in
    delivered-faulted c.steps.invariant.so_far c.requires.form c.in-Err.fault _ _
    (gave.reads (c.steps.invariant.open_reader c.steps-test.true)) may refl c.read_fault.ensures

pub returns-clause-run : goal.returns-clause-run
returns-clause-run g c =
    delivered-closes c.steps.invariant.so_far c.requires.form _ _ _ c.steps-test.false
    c.process_unit_conflicts.ensures.answer c.process_unit_conflicts.ensures.delivered

pub returns-in-Err-clause-exhausted : goal.returns-in-Err-clause-exhausted
returns-in-Err-clause-exhausted g c = λ none. absurd (not-exhausted _ (omega arith) c.if-ctx.false (c.steps.invariant.exhausted none))
