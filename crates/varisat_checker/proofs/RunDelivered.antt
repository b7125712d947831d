-- What the loop over the steps of a proof reads, accepts and delivers on.
--     RunDelivered      the steps accepted so far, the fold over them, and what was delivered on of them
--     delivered-begins, delivered-goes      the loop's start, and a turn of it
--     delivered-exhausted, delivered-refused, delivered-faulted, delivered-closes      how it ends
use Rattle.std.proofs.Common.{◌≡◌, ◌⊎◌, ℕ, true, false, ltb, List, [], ◌∷◌, ◌++◌, map, Option, Some, None, Ok, Err, refl, sym, subst, inl, inr, append-nil, append_assoc, arith}
use Rattle.std.proofs.KnownBytes.{Consumes-nil, Consumes-trans}
use Rattle.std.specs.Io.KnownBytes.{Consumes, IsAtEnd}
use Rattle.std.proofs.lemmas.List.{map-append}
use Rattle.varisat_checker.proofs.Common.{EmitsCall, EmitsCalls, Call, attempt, checks, closes, closing_conflict, count_step, step_limit, NamedStep}
use Rattle.varisat_checker.proofs.Common.{Cause, Outcome, refuse, steps_exhausted, State, Step, WellFormed, emissions_join, runs_join, AnswersParts}
use Rattle.varisat_checker.proofs.Common.{ending, CheckerError, ProofIncomplete, IoError, ParseError, CheckFailed, ProofProcessorError, OutOfMemory}
use Rattle.varisat_checker.proofs.Common.{Failed, Listeners, Listens, ListensImage, Delivered, DeliveredWhole, beginning-second, ran-append, ran-none}
use Rattle.varisat_checker.proofs.Common.{EmitsProof, EndsProof, IsReadText, PartsRun}
use Rattle.checker_rules.specs.Run.{Runs, as_answer, move}
use Rattle.checker_rules.specs.RunEmissions.{EmitsRun, last_calls, read_calls}
use Rattle.proof_bytes.specs.declared.fault.ProofFault.{ProofFault}
use Rattle.proof_bytes.specs.declared.fault.ProofFault.TheVariants as faults
use Rattle.proof_bytes.specs.declared.format.Format.{Format}
use Rattle.proof_bytes.specs.declared.format.Format.TheVariants as formats
use Rattle.proof_bytes.specs.Reading.{Fault, Short, Wrong}
use Rattle.proof_bytes.specs.Steps.{next_at}
use Rattle.proof_bytes.specs.Taking.{Faults, IsBytes, Leads, stop_behind}
use Rattle.proof_bytes.specs.TextRuns.{BeginsTextOf, IsTextOf, RunsTo}
use Rattle.proof_bytes.specs.Texts.{Place, next_of, start_of}
use Rattle.proof_bytes.proofs.Leading.{Known, bytes_on}
use Rattle.proof_bytes.proofs.TextRuns.{MayRead, SoFar, all_taken, found_fault, found_step, move_closed, move_exhausted, move_fault, move_step}
use Rattle.proof_bytes.proofs.TextRuns.{nothing_yet, of_text, one_more, run_ends, some_taken}
use Rattle.checker_parts.specs.Causes.{cause_of}
use Rattle.checker_parts.specs.Faults.{IsErrorOf}
use Rattle.checker_parts.specs.declared.error.CheckCause.TheVariants.{StepsExhausted}
use Rattle.checker_parts.specs.declared.error.StepFault.TheVariants.{Refused}
use Rattle.checker_steps.proofs.CallAnswers.{error-answers, error-delivered}
use Rattle.varisat_checker.specs.ReadFault.{IsReadFault}
use Rattle.varisat_checker.proofs.FailingLemmas.{Answer, err_answer, ok_answer}
use Rattle.varisat_checker.proofs.ProofRuns.{AnswerSets, SoFarSets, sets-begin, sets-close, sets-counted, sets-go, sets-refused, sets-stand}
use Rattle.varisat_checker.proofs.CertifiedLemmas.{certifies-proof}

-- ---- the last move

-- the call with which it ends, if any, and what it emits
abbrev calls_of : Option Call → List Call
calls_of None = []
calls_of (Some call) = call ∷ []

abbrev EmitsLast : State → Option Call → List NamedStep → Type 0
EmitsLast s' None es = es ≡ []
EmitsLast s' (Some call) es = EmitsCall s' call es

last-emits : (s' : State) (call : Option Call) (es : List NamedStep) → EmitsLast s' call es → EmitsCalls s' (calls_of call) es
last-emits s' None es h = h
last-emits s' (Some call) es h = (es, [], h, refl, sym (append-nil es))

last-read : (s' : State) (place : Place) (found : (Step × Place) ⊎ Fault) → MayRead s' → next_of place ≡ found → last_calls next_of s' place ≡ read_calls found
last-read s' place found may e = rw (may.going, may.counted, e) refl

move-closed : (s' : State) (place : Place) (refused : Option Cause) → s'.ended ≡ true → (closing_conflict s').refused ≡ refused →
    move next_of s' place ≡ inr (as_answer refused, (closing_conflict s').after)
move-closed s' place refused ended is = rw (← is) (move_closed s' place ended)

-- this call comes last at the place, and a rejection by the outcome ends the run
abbrev EndsBy : State → Outcome → Option Call → Place → Type 0
EndsBy s' o call place = (last_calls next_of s' place ≡ calls_of call)
    × ((cause : Cause) → o.refused ≡ Some cause → move next_of s' place ≡ inr (Some (inl cause), o.after))

-- over a text of the reader the steps lead to a place where this holds
record LeadsTo (known : Known) (s : State) (steps : List Step) (s' : State) (A : Place → Type 0) : Type 0 where
  text : List ℕ
  is_text : IsTextOf known text
  there : Place
  goes : RunsTo s (start_of text) steps s' there
  here : A there

silent : {P T : Type 0} (listens : Listens P) (listens_image : ListensImage T) (s' : State) (old : Listeners P T) →
    DeliveredWhole (EmitsLast s' None) listens listens_image old old
silent listens listens_image s' old = ([], refl, ran-none listens listens_image old)

-- ---- the loop

-- the steps that were accepted, the fold over them, and what was delivered on of them
pub record RunDelivered {P T : Type 0} (listens : Listens P) (listens_image : ListensImage T) (known bytes : Known)
    (s s' : State) (format : Format) (old new : Listeners P T) : Type 0 where
  pub steps : List Step
  pub reads : SoFar known bytes s steps s' format
  pub sets : SoFarSets s steps s'
  pub delivered : DeliveredWhole (EmitsCalls s (map checks steps)) listens listens_image old new

module _ {P T : Type 0} {listens : Listens P} {listens_image : ListensImage T} {known : Known} {s : State}
    {format : Format} {old : Listeners P T} where
  pub delivered-begins : {bytes : Known} → bytes ≡ known → format ≡ formats.Start → RunDelivered listens listens_image known bytes s s format old old
  delivered-begins {bytes} e starts = record {
    steps = [];
    reads = nothing_yet known bytes s format e starts;
    sets = sets-begin s;
    delivered = ([], refl, ran-none listens listens_image old);
  }

  -- a turn of the loop
  pub delivered-goes : {now new : Known} {s' u : State} {next : Format} {step : Step} {mid later : Listeners P T} →
      RunDelivered listens listens_image known now s s' format old mid → Leads now new (next_at format) (λ more. Ok ((next, step), more)) → MayRead s' →
      AnswersParts ok_answer (attempt s' step) u → DeliveredWhole (EmitsCall s' (checks step)) listens listens_image mid later →
      RunDelivered listens listens_image known new s u next old later
  delivered-goes {s' = s'} {u = u} {step = step} {mid = mid} {later = later} p leads may h k =
      let reached = (runs_join Place Fault).state next_of _ _ _ _ _ (p.reads.goes []) in
      record {
        steps = p.steps ++ step ∷ [];
        reads = one_more u p.reads leads may h.0 h.1;
        sets = sets-go p.sets step u h;
        delivered = (
          p.delivered.0 ++ k.0,
          rw map-append ((emissions_join Place Fault).calls _ _ _ _ _ p.delivered.1
              (subst (λ (w : State). EmitsCalls w (checks step ∷ []) k.0) reached (last-emits s' (Some (checks step)) k.0 k.1))),
          ran-append listens listens_image _ _ _ _ _ p.delivered.2 k.2,
        );
      }

-- ---- how it ends

module _ {known now : Known} {s s' : State} {steps : List Step} {format : Format} (p : SoFar known now s steps s' format) where
  -- what was taken so far, and more
  module _ (later : Known) (extra : List ℕ) (bytes : IsBytes extra) (consumed : Consumes now later extra) where
    begins : BeginsTextOf known (p.taken ++ extra)
    begins = some_taken _ _ _ (bytes_on _ _ p.bytes bytes) (Consumes-trans _ _ _ _ _ p.consumed consumed)

    all : IsAtEnd later → IsTextOf known (p.taken ++ extra)
    all = all_taken _ _ _ (bytes_on _ _ p.bytes bytes) (Consumes-trans _ _ _ _ _ p.consumed consumed)

    -- over a text that continues in any way after it
    over : (A : Place → Type 0) → ((more : List ℕ) → A (format, extra ++ more)) → LeadsTo known s steps s' A
    over A h =
        let k = of_text (λ text. (there : Place) × RunsTo s (start_of text) steps s' there × A there) _ _ _
        (bytes_on _ _ p.bytes bytes) (Consumes-trans _ _ _ _ _ p.consumed consumed)
        (λ more. ((format, extra ++ more), rw append_assoc (p.goes (extra ++ more)), h more)) in
        record { text = k.0; is_text = k.1; there = k.2.0; goes = k.2.1; here = k.2.2 }

  anywhere : (A : Place → Type 0) → ((there : Place) → A there) → LeadsTo known s steps s' A
  anywhere A h = over now [] (λ i. omega arith) (Consumes-nil now) A (λ more. h (format, more))

  closing : s'.ended ≡ true → LeadsTo known s steps s' (EndsBy s' (closing_conflict s') (Some closes))
  closing ended = anywhere (EndsBy s' (closing_conflict s') (Some closes)) (λ there. (rw ended refl, λ cause is. move-closed s' there (Some cause) ended is))

module _ {P T : Type 0} {listens : Listens P} {listens_image : ListensImage T} {known now : Known}
    {s s' : State} {format : Format} {old mid : Listeners P T} (p : RunDelivered listens listens_image known now s s' format old mid) where
  module _ (form : WellFormed s) (u : State) (new : Listeners P T) where
    parts-run : (r : Answer) (text : List ℕ) → AnswerSets s p.steps r u → IsReadText (ending r) known text → EndsProof (ending r) text s p.steps u →
        Delivered r (EmitsProof (ending r) s text p.steps) listens listens_image old new →
        PartsRun known s r u listens listens_image old new
    parts-run r text sets is_text ends delivered = record {
      text = text;
      steps = p.steps;
      answered = assumption (sets, is_text, ends);
      delivered = delivered;
      certified = certifies-proof s u text p.steps form r ends;
    }

    -- this call is the last, if any
    ends-in : (call : Option Call) (r : Answer) (text : List ℕ) (there : Place) → RunsTo s (start_of text) p.steps s' there →
        last_calls next_of s' there ≡ calls_of call → AnswerSets s p.steps r u → IsReadText (ending r) known text → EndsProof (ending r) text s p.steps u →
        Delivered r (EmitsLast s' call) listens listens_image mid new →
        PartsRun known s r u listens listens_image old new
    ends-in call r text there goes last sets is_text ends h = parts-run r text sets is_text ends (told r ends h)
      where
        more : (es : List NamedStep) → EmitsLast s' call es → EmitsRun next_of s (start_of text) p.steps (p.delivered.0 ++ es)
        more es e = subst (λ (l : List Step). EmitsRun next_of s (start_of text) l (p.delivered.0 ++ es)) (append-nil p.steps)
            ((emissions_join Place Fault).ends _ _ _ _ _ _ [] _ _ goes p.delivered.1 (rw last (last-emits s' call es e)))

        told : (r : Answer) → EndsProof (ending r) text s p.steps u → Delivered r (EmitsLast s' call) listens listens_image mid new →
            Delivered r (EmitsProof (ending r) s text p.steps) listens listens_image old new
        told (Err (ProofProcessorError fault)) ends h =
            beginning-second listens listens_image (EmitsLast s' call) (EmitsRun next_of s (start_of text) p.steps) _ _ _ _ p.delivered.2 more h
        told (Err OutOfMemory) ends h = tt
        told (Err Failed) ends h = absurd ends
        told _ ends h = (p.delivered.0 ++ h.0, more h.0 h.1, ran-append listens listens_image _ _ _ _ _ p.delivered.2 h.2)

    -- a call that answers an error
    refuses : (o : Outcome) (call : Option Call) → LeadsTo known s p.steps s' (EndsBy s' o call) → (e : CheckerError) → AnswerSets s p.steps (Err e) u →
        AnswersParts (err_answer e) o u → Delivered (err_answer e) (EmitsLast s' call) listens listens_image mid new →
        PartsRun known s (err_answer e) u listens listens_image old new
    refuses o call k (CheckFailed number msg debug_step) sets h d =
        ends-in call (Err (CheckFailed number msg debug_step)) _ _ k.goes k.here.0 sets k.is_text
        (h.2, run_ends _ _ _ _ _ _ _ k.goes (rw h.1 (k.here.1 (cause_of msg) h.0))) d
    refuses o call k (ProofProcessorError fault) sets h d = ends-in call (Err (ProofProcessorError fault)) _ _ k.goes k.here.0 sets k.is_text tt d
    refuses o call k OutOfMemory sets h d =
        parts-run (Err OutOfMemory) p.reads.taken sets (some_taken _ _ _ p.reads.bytes p.reads.consumed) tt tt
    refuses o call k _ sets h d = absurd h

    -- a step that could not be read
    stopped : (f : Fault) (e : CheckerError) (text : List ℕ) (there : Place) → MayRead s' → u ≡ count_step s' → RunsTo s (start_of text) p.steps s' there →
        next_at there.0 there.1 ≡ Err f → IsReadText (ending (err_answer e)) known text →
        (Runs next_of s (start_of text) p.steps (Some (inr f)) u → EndsProof (ending (err_answer e)) text s p.steps u) →
        Delivered (err_answer e) (EmitsLast s' None) listens listens_image mid new →
        PartsRun known s (err_answer e) u listens listens_image old new
    stopped f e text there may counted goes found is_text ends d =
        ends-in None (Err e) text there goes (last-read _ _ _ may (found_fault _ _ found)) (sets-counted p.sets _ u counted) is_text
        (ends (run_ends _ _ _ _ _ _ _ goes (rw counted (move_fault _ _ _ may found)))) d

  -- no step number was left
  pub delivered-exhausted : WellFormed s → {e : CheckerError} → IsErrorOf s'.steps (Refused StepsExhausted) e → s'.ended ≡ false →
      ltb s'.steps step_limit ≡ false → PartsRun known s (err_answer e) s' listens listens_image old mid
  delivered-exhausted form {e} h going none =
      let o = refuse steps_exhausted s' in
      refuses form s' mid o None
      (anywhere p.reads (EndsBy s' o None) (λ there. (rw (going, none) refl, λ cause is. let moved = move_exhausted s' there going none in cc))) e
      (sets-stand p.sets (Err e)) (error-answers _ _ e o s' h refl (refl, refl))
      (error-delivered listens listens_image (EmitsLast s' None) _ _ e mid mid h (silent listens listens_image s' mid))

  -- `End` was accepted, now or before
  pub delivered-closes : WellFormed s → (r : Answer) (u : State) (new : Listeners P T) → s'.ended ≡ true → AnswersParts r (closing_conflict s') u →
      Delivered r (EmitsCall s' closes) listens listens_image mid new → PartsRun known s r u listens listens_image old new
  delivered-closes form (Ok done) u new ended h k =
      let found = closing p.reads ended in
      ends-in form u new (Some closes) (Ok done) _ found.there found.goes found.here.0 (sets-close p.sets (Ok done) u h) found.is_text
      (run_ends _ _ _ _ _ _ _ found.goes (rw h.1 (move-closed s' found.there None ended h.0))) k
  delivered-closes form (Err e) u new ended h k =
      refuses form u new (closing_conflict s') (Some closes) (closing p.reads ended) e (sets-close p.sets (Err e) u h) h k

  -- the step that was read is rejected, or a box answered a fault at it
  pub delivered-refused : WellFormed s → {later : Known} {next : Format} {step : Step} →
      Leads now later (next_at format) (λ more. Ok ((next, step), more)) → MayRead s' → {u : State} {new : Listeners P T} {e : CheckerError} →
      AnswersParts (err_answer e) (attempt s' step) u →
      Delivered (err_answer e) (EmitsCall s' (checks step)) listens listens_image mid new →
      PartsRun known s (err_answer e) u listens listens_image old new
  delivered-refused form {later} {next} {step} leads may {u} {new} {e} h k =
      refuses form u new (attempt s' step) (Some (checks step))
      (over p.reads later leads.taken leads.bytes leads.consumed (EndsBy s' (attempt s' step) (Some (checks step))) (λ more.
      let place : Place = (format, leads.taken ++ more) in (
        last-read s' place (inl (step, (next, more))) may (found_step place (next, more) step (leads.same more)),
        λ cause is. move_step _ place _ _ _ may (leads.same more) is,
      )))
      e (sets-refused p.sets step e u h) h k

  -- no step was read
  pub delivered-faulted : WellFormed s → {later : Known} (fault : ProofFault) (e : CheckerError) (u : State) →
      Faults now later (stop_behind fault) (next_at format) → MayRead s' → u ≡ count_step s' → IsReadFault u.steps fault e →
      PartsRun known s (err_answer e) u listens listens_image old mid
  delivered-faulted form faults.End e u q may counted is = rw is (stopped form u mid Short (ProofIncomplete u.steps) _ (format, q.taken) may counted
      (p.reads.goes q.taken) q.is_fault.0 (all p.reads _ _ q.bytes q.consumed q.is_fault.1) (λ run. (refl, run)) (silent listens listens_image s' mid))
  delivered-faulted form (faults.Read cause) e u q may counted is = rw is (stopped form u mid Short (IoError u.steps cause) _ (format, q.taken) may counted
      (p.reads.goes q.taken) q.is_fault (begins p.reads _ _ q.bytes q.consumed) (λ run. (refl, run)) (silent listens listens_image s' mid))
  delivered-faulted form (faults.Malformed kind) e u q may counted is =
      let k = over p.reads _ _ q.bytes q.consumed (λ there. next_at there.0 there.1 ≡ Err (Wrong kind)) q.is_fault in
      rw is (stopped form u mid (Wrong kind) (ParseError u.steps kind) _ k.there may counted k.goes k.here k.is_text (λ run. (refl, run))
      (silent listens listens_image s' mid))
  delivered-faulted form faults.OutOfMemory e u q may counted is = rw is (parts-run form u mid (Err OutOfMemory) p.reads.taken
      (sets-counted p.sets (Err OutOfMemory) u counted) (some_taken _ _ _ p.reads.bytes p.reads.consumed) tt tt)
