-- Calls, and runs over a text, whose emissions are runs of the hint machine.
use Rattle.std.proofs.Common.{◌≡◌, ℕ, false, List, [], ◌∷◌, map, refl, sym, subst, append-nil, None, Ok, Err}
use Rattle.sat_rules.specs.Named.{Machine}
use Rattle.varisat_checker.proofs.Common.{add_clauses, added, EmitsCall, EmitsCalls, Call, adds, answer_of, calls_after, attempt, checks, hint_steps}
use Rattle.varisat_checker.proofs.Common.{NamedStep, State, Step, WellFormed, runs_run_machine, AnswersParts, AnswersStep, UnlessFailed, ending}
use Rattle.varisat_checker.proofs.Common.{ProofProcessorError, OutOfMemory, Failed, unless_failed, EmitsProof, EndsProof}
use Rattle.checker_rules.specs.HintRun.{machine_after, IsRun}
use Rattle.checker_rules.specs.Machine.{Mirrors}
use Rattle.checker_rules.proofs.AddedClauses.{formulas_are_fold}
use Rattle.checker_rules.proofs.CallRuns.{calls_run_machine}
use Rattle.checker_steps.specs.Failing.{has_failed}
use Rattle.varisat_checker.specs.Certified.{Certifies}
use Rattle.varisat_checker.proofs.FailingLemmas.{Answer, after-parts}
use Rattle.checker_rules.specs.Run.{Runs}
use Rattle.checker_rules.specs.RunEmissions.{EmitsRun, last_calls}
use Rattle.proof_bytes.specs.Texts.{Place, next_of, start_of}
use Rattle.proof_bytes.specs.TextRuns as runs

-- a list of calls
certifies-calls : (r : Answer) (s u : State) (calls : List Call) → WellFormed s → ((P : State → Type 0) → P (calls_after s calls) → UnlessFailed r (P u)) →
    Certifies r (EmitsCalls s calls) s u
certifies-calls r s u calls form after m es tied emits =
    let k = calls_run_machine _ _ _ _ tied form emits in (k.0, after (λ w. Mirrors (machine_after m (hint_steps es)) w) k.1)

-- one call over parts, after which it is recorded where it gave up
pub certifies-call : (r : Answer) (s s' u : State) (call : Call) → WellFormed s → AnswersParts r (answer_of s call) s' →
    (has_failed r ≡ false → u ≡ s') → Certifies r (EmitsCall s call) s u
certifies-call r s s' u call form h same m es tied emits =
    certifies-calls r _ _ (call ∷ []) form (λ P. after-parts P r _ s' u h same) m es tied (es, [], emits, refl, sym (append-nil es))

-- clauses added in turn
pub certifies-adds : (r : Answer) (s u : State) (cs : List (List ℕ)) → WellFormed s → AnswersStep r (add_clauses s cs) u →
    Certifies r (EmitsCalls s (map adds (added s cs))) s u
certifies-adds r s u cs form h =
    certifies-calls r _ _ _ form (λ P p. unless_failed P _ (subst P (sym (formulas_are_fold.state s cs)) p) r u h)

-- what a run emits is what some calls emit
run-calls : (s : State) (here : Place) (steps : List Step) (es : List NamedStep) → EmitsRun next_of s here steps es →
    (calls : List Call) × EmitsCalls s calls es
run-calls s here [] es h = (last_calls next_of s here, h)
run-calls s here (step ∷ steps) es h =
    let later = run-calls (attempt s step).after h.0 steps h.3 h.5 in (checks step ∷ later.0, (h.2, h.3, h.4, later.1, h.6))

module _ (s s' : State) (text : List ℕ) (steps : List Step) (form : WellFormed s) where
  begun : (m : Machine) (es : List NamedStep) → Mirrors m s → EmitsRun next_of s (start_of text) steps es → IsRun m (hint_steps es) × Unit {0}
  begun m es tied emits = let k = run-calls _ _ _ _ emits in ((calls_run_machine _ _ _ _ tied form k.1).0, tt)

  whole : (answer : runs.Answer) → Runs next_of s (start_of text) steps answer s' → (m : Machine) (es : List NamedStep) → Mirrors m s →
      EmitsRun next_of s (start_of text) steps es → IsRun m (hint_steps es) × Mirrors (machine_after m (hint_steps es)) s'
  whole answer runs m es tied emits = let k = runs_run_machine _ _ _ _ _ _ _ _ _ _ tied form runs emits in (k.0, k.1)

  -- what a run over a text emits, by its answer
  pub certifies-proof : (r : Answer) → EndsProof (ending r) text s steps s' → Certifies r (EmitsProof (ending r) s text steps) s s'
  certifies-proof (Ok done) runs = whole None runs
  certifies-proof (Err (ProofProcessorError cause)) runs = begun
  certifies-proof (Err OutOfMemory) runs = begun
  certifies-proof (Err Failed) runs = absurd runs
  certifies-proof (Err _) runs = whole _ runs.1
