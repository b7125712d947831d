-- What adding the clauses of a text answers, and what is delivered on.
--     added-none, takes-added      the start, and a clause
--     text-ends, text-fault, text-rejected      the whole text; its fault; a clause that was not accepted
use Rattle.std.proofs.Common.{◌≡◌, ℕ, false, List, [], ◌∷◌, ◌++◌, Option, Result, Ok, Err, refl}
use Rattle.sat_rules.specs.Named.{Machine}
use Rattle.varisat_checker.proofs.Common.{add_clauses, EmitsCall, adds, NamedStep, hint_steps, EntailsRedundant, State, add_clause, WellFormed}
use Rattle.varisat_checker.proofs.Common.{AnswersStep, AnswersText, UnlessTextFailed, text_ending, CheckerError, OutOfMemory, sets_text, Listeners}
use Rattle.varisat_checker.proofs.Common.{Listens, ListensImage, Delivered, DeliveredEnd, DeliveredWhole, ran-none}
use Rattle.checker_rules.specs.HintRun.{IsRun, machine_after}
use Rattle.checker_rules.specs.Machine.{Mirrors}
use Rattle.checker_rules.specs.Steps.{step}
use Rattle.sat_formula.specs.declared.fault.DimacsFault.{DimacsFault}
use Rattle.sat_formula.specs.declared.fault.DimacsFault.TheVariants as faults
use Rattle.sat_formula.specs.TakenClauses.{Takes, TakesSome, TakesWhole}
use Rattle.sat_formula.specs.declared.sink.Summary.{Summary}
use Rattle.sat_formula.specs.declared.sink.UntakenClause.{UntakenClause}
use Rattle.sat_formula.specs.declared.sink.UntakenClause.TheVariants.{Text, Sink}
use Rattle.checker_parts.specs.declared.error.DimacsError.{DimacsError}
use Rattle.checker_parts.specs.declared.error.DimacsError.TheVariants.{Read, Malformed, Checker}
use Rattle.varisat_checker.specs.Added.{EmitsAdded, HasAdded, HasRejected}
use Rattle.varisat_checker.specs.TextFault.{IsTextFault}
use Rattle.varisat_checker.specs.TextRun.{EndsText, TextRun, outcome_of}
use Rattle.varisat_checker.proofs.CertifiedLemmas.{certifies-adds}
use Rattle.varisat_checker.proofs.DeliveredAdds.{added-all, added-more, added-stops, adds-more, adds-stop, covers-added, sets-added}
use Rattle.varisat_checker.proofs.FailingLemmas.{err_answer, ok_answer}

-- ---- clause after clause

module _ {P T : Type 0} {listens : Listens P} {listens_image : ListensImage T} {s : State} {old : Listeners P T} where
  pub added-none : s.failed ≡ false → HasAdded listens listens_image s [] s old old
  added-none running = record {
    so_far = record { running = running; accepted = refl };
    delivered = ([], refl, ran-none listens listens_image old);
  }

  module _ {u : State} {now : Listeners P T} {clauses : List (List ℕ)} (p : HasAdded listens listens_image s clauses u old now)
      (clause : List ℕ) (w : State) (later : Listeners P T) where
    added-one : AnswersStep ok_answer (step u (add_clause clause)) w →
        DeliveredWhole (EmitsCall u (adds clause)) listens listens_image now later → HasAdded listens listens_image s (clauses ++ clause ∷ []) w old later
    added-one a k = record {
      so_far = added-more p.so_far clause w a;
      delivered = adds-more listens listens_image _ _ p.so_far _ p.delivered _ _ k;
    }

    added-not : {e : CheckerError} → AnswersStep (err_answer e) (step u (add_clause clause)) w →
        Delivered (err_answer e) (EmitsCall u (adds clause)) listens listens_image now later → HasRejected listens listens_image s (clauses ++ clause ∷ []) e w old later
    added-not {e} a k = record {
      answer = added-stops p.so_far clause [] e w a;
      delivered = adds-stop listens listens_image _ _ p.so_far _ p.delivered _ _ [] e w a k;
    }

    pub takes-added : (r : Result (Unit {0}) CheckerError) → AnswersStep r (step u (add_clause clause)) w →
        Delivered r (EmitsCall u (adds clause)) listens listens_image now later →
        Takes r (HasAdded listens listens_image s (clauses ++ clause ∷ []) w old later) (λ e. HasRejected listens listens_image s (clauses ++ clause ∷ []) e w old later)
    takes-added (Ok done) a k = added-one a k
    takes-added (Err e) a k = added-not a k

-- ---- the text

-- the map is tied after the clauses that were accepted
certifies-text : (s u : State) (clauses : List (List ℕ)) (r : Result (Unit {0}) DimacsError) → WellFormed s → AnswersText r (add_clauses s clauses) u →
    (m : Machine) (es : List NamedStep) → Mirrors m s → EmitsAdded s clauses es →
    IsRun m (hint_steps es) × UnlessTextFailed r (Mirrors (machine_after m (hint_steps es)) u)
certifies-text s u clauses (Err (Checker e)) form a = certifies-adds (Err e) s u clauses form a
certifies-text s u clauses _ form a = certifies-adds (Ok tt) s u clauses form a

module _ {P T : Type 0} {listens : Listens P} {listens_image : ListensImage T} {known : Option (List ℕ)} {s : State} {old : Listeners P T}
    (good : EntailsRedundant s) (form : WellFormed s) where
  ended : {u : State} {now : Listeners P T} (clauses : List (List ℕ)) (r : Result (Unit {0}) DimacsError) → EndsText (outcome_of known) clauses r →
      AnswersText r (add_clauses s clauses) u → DeliveredEnd (text_ending r) (EmitsAdded s clauses) listens listens_image old now →
      TextRun known s r u listens listens_image old now
  ended {u} clauses r text a delivered = record {
    clauses = clauses;
    answered = record {
      text = text;
      answer = a;
      folds = λ before fold. sets_text _ _ (λ q. sets-added _ before _ q _ good fold) r a;
      covers = λ before covered. sets_text _ _ (λ q. covers-added _ before _ q _ covered) r a;
    };
    delivered = delivered;
    certified = certifies-text s u clauses r form a;
  }

  module _ (u : State) (now : Listeners P T) where
    pub text-ends : (summary : Summary) → TakesWhole known (λ clauses lines. HasAdded listens listens_image s clauses u old now) summary →
        TextRun {A = Unit {0}} known s (Ok tt) u listens listens_image old now
    text-ends summary h = ended h.clauses (Ok tt) h.whole (added-all h.holds.so_far refl) h.holds.delivered

    module _ (why : UntakenClause CheckerError) (h : TakesSome known (λ clauses lines. HasAdded listens listens_image s clauses u old now)
        (λ clauses e. HasRejected listens listens_image s clauses e u old now) why) where
      -- a clause that was rejected, or that a box faulted at
      pub text-rejected : (e : CheckerError) → why ≡ Sink e → TextRun {A = Unit {0}} known s (Err (Checker e)) u listens listens_image old now
      text-rejected e is = let at_clause = rw is at h in ended at_clause.0 (Err (Checker e)) at_clause.1 at_clause.2.answer at_clause.2.delivered

      -- the fault of the text, and the checker after it
      pub text-fault : (fault : DimacsFault) → why ≡ Text fault → {e : DimacsError} {w : State} → IsTextFault fault u e w → TextRun {A = Unit {0}} known s (Err e) w listens listens_image old now
      text-fault (faults.Read cause) of is = let some = rw of at h in rw is.0 (ended some.0 (Err (Read cause)) some.2 (added-all some.3.so_far is.1) some.3.delivered)
      text-fault (faults.Malformed line kind) of is =
          let some = rw of at h in rw is.0 (ended some.0 (Err (Malformed line kind)) some.2 (added-all some.3.so_far is.1) some.3.delivered)
      text-fault faults.OutOfMemory of is = let some = rw of at h in rw is.0 (ended some.0 (Err (Checker OutOfMemory)) some.2 is.1 tt)
