-- How a call ends, by the run of its library.
use Rattle.std.proofs.Common.{◌≡◌, ◌∙◌, ◌⊎◌, ℕ, Bool, List, [], Option, Some, None, Result, Ok, Err, IfOk, inl, inr, refl, sym}
use Rattle.std.proofs.lemmas.List.{append-nil}
use Rattle.std.specs.Io.KnownBytes.{Appends}
use Rattle.std.specs.Prelude.{IfErr, IfSome}
use Rattle.circuit_answers.specs.Answers.{IsDifferentJudged, IsPossibleJudged}
use Rattle.circuit_answers.specs.Reached.{IsReachJudged, is_reached, reach_line}
use Rattle.circuit_answers.specs.declared.reach.Reach.{Reach}
use Rattle.circuit_answers.specs.declared.reach.Reach.TheVariants.{At, Broken, Nowhere, OtherStart}
use Rattle.answer_text.specs.Literals.{listed}
use Rattle.circuit_text.specs.declared.circuit.Circuit as read
use Rattle.circuit_check.proofs.AnswerLemmas.{different_text, possible_text}
use Rattle.circuit_check.proofs.ClaimLemmas.{never_text, safe_text, same_text}
use Rattle.circuit_check.proofs.ReachLemmas.{reached_text}
use Rattle.circuit_check.specs.Answered.{BeginsDifferent, BeginsPossible, OfDifferent, OfPossible, WritesDifferent, WritesPossible}
use Rattle.circuit_check.specs.Claims.{IsInductionText, IsNeverFormula, IsSameFormula}
use Rattle.circuit_check.specs.Reached.{BeginsReach, IsReachRun, IsSilentReach, IsUnwrittenReach, OfReach}
use Rattle.circuit_check.specs.Runs.{BeginsClaim, BeginsSafe, IsClaimRun, IsSafeRun, IsShown, IsSilent, IsUnwritten, ShowsAll}
use Rattle.circuit_check.specs.Verdicts.{claim_line}
use Rattle.circuit_check.specs.declared.fault.CircuitFault.{CircuitFault}
use Rattle.circuit_check.specs.declared.fault.CircuitFault.TheVariants as faults
use Rattle.circuit_check.specs.declared.fault.ReachFault.{ReachFault}
use Rattle.circuit_check.specs.declared.fault.ReachFault.TheVariants as reaches
use Rattle.circuit_check.specs.declared.line.Claim.{Claim}
use Rattle.circuit_check.specs.declared.line.Claim.TheVariants.{Safe}
use Rattle.circuit_names.specs.declared.pairing.Pairing.{Pairing}
use Rattle.circuit_clauses.specs.declared.induction.Induction.{Induction}
use Rattle.circuit_check_main.proofs.Naming.{read_is}
use Rattle.circuit_check_main.specs.Meaning.{Answers, DifferentMeans, NeverMeans, PossibleMeans, Proves, ReachMeans, Runs, SafeMeans, SameMeans, Shown, answered, proved, ran, shown_status, shown_text, wrote}
use Rattle.verdicts.proofs.Ending.{ends_weaker}
use Rattle.verdicts.specs.Statuses.{Ends, ended_of}
use Rattle.verdicts.specs.Verdicts.{shows_unsat}
use Rattle.verdicts.specs.declared.status.Refusal.{Refusal}
use Rattle.verdicts.specs.declared.status.Refusal.TheVariants.{Failed}
use Rattle.verdicts.specs.declared.verdict.Verdict.{Verdict}
use Rattle.verdicts.specs.declared.verdict.Verdict.TheVariants.{NotVerified, Verified}

-- ---- faults: a line was begun, or nothing was written

told : (fault : CircuitFault) → IsSilent (Err fault) ⊎ IsUnwritten (Err fault)
told (faults.Unread f) = inl tt
told (faults.OtherUnread f) = inl tt
told faults.Sequential = inl tt
told (faults.Unpaired f) = inl tt
told (faults.NoFormula f) = inl tt
told (faults.Answer f) = inl tt
told (faults.Proof f) = inl tt
told (faults.InitialProof f) = inl tt
told (faults.StepProof f) = inl tt
told (faults.BadProof f) = inl tt
told (faults.Formula f) = inl tt
told (faults.Write f) = inr tt

told_reach : (fault : ReachFault) → IsSilentReach (Err fault) ⊎ IsUnwrittenReach (Err fault)
told_reach (reaches.Unread f) = inl tt
told_reach (reaches.Stimulus f) = inl tt
told_reach (reaches.NotRun f) = inl tt
told_reach (reaches.Write f) = inr tt

-- ---- what a verdict means, by the bytes that its readers had

pub never_means : (known said : Option (List ℕ)) → known ≡ said → (formula : List (List ℕ)) (verdict : Verdict)
    → IsNeverFormula known formula → IsShown formula verdict → NeverMeans said verdict
never_means known said same formula Verified is shown = λ text e. never_text known text formula (same ∙ e) is shown
never_means known said same formula NotVerified is shown = tt

pub same_means : (pairing : Pairing) (slice slice' items items' : List ℕ) (said said' : Option (List ℕ)) → slice ≡ items → slice' ≡ items'
    → IfSome said (λ bytes. items ≡ bytes) → IfSome said' (λ bytes. items' ≡ bytes) → (formula : List (List ℕ)) (verdict : Verdict)
    → IsSameFormula pairing slice slice' formula → IsShown formula verdict → SameMeans pairing said said' verdict
same_means pairing slice slice' items items' said said' e e' known known' formula Verified is shown =
    λ text other first second. rw (read_is said text items slice first known e) at
    (rw (read_is said' other items' slice' second known' e') at (same_text pairing slice slice' formula is shown))
same_means pairing slice slice' items items' said said' e e' known known' formula NotVerified is shown = tt

safe_means : (known known' said : Option (List ℕ)) → known ≡ said → (i : Induction) (verdict : Verdict)
    → IsInductionText known known' i → ShowsAll i verdict → SafeMeans said verdict
safe_means known known' said same i Verified is shown = λ text e. safe_text known known' text i (same ∙ e) is shown
safe_means known known' said same i NotVerified is shown = tt

reach_means : (known known' said : Option (List ℕ)) → known ≡ said → (reach : Reach)
    → OfReach known known' (λ c s. IsReachJudged c s reach) → ReachMeans said reach
reach_means known known' said same (At step) h =
    λ text e. reached_text known text h.circuit h.stimulus (At step) step (same ∙ e) h.says h.holds refl
reach_means known known' said same (OtherStart latch) h = tt
reach_means known known' said same (Broken step) h = tt
reach_means known known' said same Nowhere h = tt

-- ---- one circuit, and an answer

of_possible : (known answer : Option (List ℕ)) (P Q : read.Circuit → (ℕ → Bool) → Type 0) (h : OfPossible known answer P)
    → Q h.circuit (listed h.holds.lits) → OfPossible known answer Q
of_possible known answer P Q h q = record {
  circuit = h.circuit;
  gates = h.gates;
  holds = record { lits = h.holds.lits; lists = h.holds.lists; apart = h.holds.apart; holds = q };
}

possible_means : (known answer said said' : Option (List ℕ)) → known ≡ said → answer ≡ said' → (verdict : Verdict) (text : List ℕ)
    → OfPossible known answer (λ c lits. IsPossibleJudged lits c verdict text) → PossibleMeans said said' verdict text
possible_means known answer said said' same same' verdict text h = record {
  judged = rw same at (rw same' at h);
  possible = λ bytes e is. possible_text known answer bytes verdict None None (same ∙ e) is
      (of_possible known answer (λ c lits. IsPossibleJudged lits c verdict text) (λ c lits. WritesPossible lits c verdict None None) h
      (record { text = text; judged = h.holds.holds; appends = tt }));
}

-- ---- two circuits, and an answer

of_different : (pairing : Pairing) (text text' : List ℕ) (answer : Option (List ℕ)) (P Q : read.Circuit → read.Circuit → (ℕ → Bool) → Type 0)
    (h : OfDifferent pairing text text' answer P) → Q h.circuit h.second (listed h.holds.lits) → OfDifferent pairing text text' answer Q
of_different pairing text text' answer P Q h q = record {
  circuit = h.circuit;
  second = h.second;
  gates = h.gates;
  is = h.is;
  holds = record { lits = h.holds.lits; lists = h.holds.lists; apart = h.holds.apart; holds = q };
}

-- where their texts and the answer's are known
abbrev Reads : Option (List ℕ) → List ℕ → List ℕ → Type 0
Reads said items slice = (slice ≡ items) × IfSome said (λ bytes. items ≡ bytes)

different_means : (pairing : Pairing) (slice slice' items items' : List ℕ) (answer said said' said'' : Option (List ℕ)) → Reads said items slice
    → Reads said' items' slice' → answer ≡ said'' → (verdict : Verdict) (text : List ℕ)
    → OfDifferent pairing slice slice' answer (λ c d lits. IsDifferentJudged lits c d verdict text) → DifferentMeans pairing said said' said'' verdict text
different_means pairing slice slice' items items' answer said said' said'' one two same verdict text h = record {
  judged = λ bytes other_bytes e e'. rw (read_is said bytes items slice e one.1 one.0) at
      (rw (read_is said' other_bytes items' slice' e' two.1 two.0) at (rw same at h));
  different = λ bytes other_bytes e e' is. rw (read_is said bytes items slice e one.1 one.0) at
      (rw (read_is said' other_bytes items' slice' e' two.1 two.0) at
      (different_text pairing slice slice' answer verdict None None is
      (of_different pairing slice slice' answer (λ c d lits. IsDifferentJudged lits c d verdict text)
      (λ c d lits. WritesDifferent lits c d verdict None None) h (record { text = text; judged = h.holds.holds; appends = tt }))));
}

-- ---- how a call ends

module _ (old new : Option (List ℕ)) where
  -- by a proof of one formula
  module _ (claim : Claim) (IsFormula : List (List ℕ) → Type 0) (P : Verdict → Type 0)
      (means : (formula : List (List ℕ)) (verdict : Verdict) → IsFormula formula → IsShown formula verdict → P verdict) where
    pub ends_claim : (Fails : CircuitFault → Type 0) (r : Result Verdict CircuitFault) → IsClaimRun IsFormula Fails r
        → IfOk r (λ verdict. Appends old new (claim_line claim verdict)) → (IsSilent r → new ≡ old) → (IsUnwritten r → BeginsClaim IsFormula claim old new)
        → Ends shown_text shown_status (Proves claim P) (Unit {0}) old new (ended_of shows_unsat r)
    ends_claim Fails (Ok verdict) run line silent unwritten = (proved claim verdict, refl, line, (verdict, refl, means run.0 verdict run.1 run.2))
    ends_claim Fails (Err fault) run line silent unwritten = elim (told fault) [
      | inl quiet ↦ inl (silent quiet, tt)
      | inr cut ↦
          let b = unwritten cut in
          inr (refl, (proved claim b.verdict, b.begins, (b.verdict, refl, means b.formula b.verdict b.is b.shown)))
    ]

  -- by the proofs of three
  pub ends_safe : (known known' said : Option (List ℕ)) → known ≡ said → (r : Result Verdict CircuitFault) → IsSafeRun known known' r
      → IfOk r (λ verdict. Appends old new (claim_line Safe verdict)) → (IsSilent r → new ≡ old) → (IsUnwritten r → BeginsSafe known known' old new)
      → Ends shown_text shown_status (Proves Safe (SafeMeans said)) (Unit {0}) old new (ended_of shows_unsat r)
  ends_safe known known' said same (Ok verdict) run line silent unwritten =
      (proved Safe verdict, refl, line, (verdict, refl, safe_means known known' said same run.0 verdict run.1 run.2))
  ends_safe known known' said same (Err fault) run line silent unwritten = elim (told fault) [
    | inl quiet ↦ inl (silent quiet, tt)
    | inr cut ↦
        let b = unwritten cut in
        inr (refl, (proved Safe b.verdict, b.begins, (b.verdict, refl, safe_means known known' said same b.induction b.verdict b.is b.shown)))
  ]

  -- by an answer
  module _ (known answer said said' : Option (List ℕ)) (same : known ≡ said) (same' : answer ≡ said') where
    pub ends_possible : (r : Result Verdict CircuitFault) → IfOk r (λ verdict. OfPossible known answer (λ c lits. WritesPossible lits c verdict old new))
        → (IsSilent r → new ≡ old) → (IsUnwritten r → OfPossible known answer (λ c lits. BeginsPossible lits c old new))
        → Ends shown_text shown_status (Answers (PossibleMeans said said')) (Unit {0}) old new (ended_of shows_unsat r)
    ends_possible (Ok verdict) line silent unwritten =
        let w = line.holds.holds in (
          answered verdict w.text,
          refl,
          w.appends,
          (
            verdict,
            w.text,
            refl,
            possible_means known answer said said' same same' verdict w.text
                (of_possible known answer (λ c lits. WritesPossible lits c verdict old new) (λ c lits. IsPossibleJudged lits c verdict w.text) line w.judged),
          ),
        )
    ends_possible (Err fault) line silent unwritten = elim (told fault) [
      | inl quiet ↦ inl (silent quiet, tt)
      | inr cut ↦
          let b = unwritten cut in
          let w = b.holds.holds in
          inr (
            refl,
            (
              answered w.verdict w.text,
              w.begins,
              (
                w.verdict,
                w.text,
                refl,
                possible_means known answer said said' same same' w.verdict w.text
                    (of_possible known answer (λ c lits. BeginsPossible lits c old new) (λ c lits. IsPossibleJudged lits c w.verdict w.text) b w.judged),
              ),
            ),
          )
    ]

  module _ (pairing : Pairing) (slice slice' items items' : List ℕ) (answer said said' said'' : Option (List ℕ)) (e : slice ≡ items) (e' : slice' ≡ items')
      (first : IfSome said (λ bytes. items ≡ bytes)) (second : IfSome said' (λ bytes. items' ≡ bytes)) (same : answer ≡ said'') where
    pub ends_different : (r : Result Verdict CircuitFault)
        → IfOk r (λ verdict. OfDifferent pairing slice slice' answer (λ c d lits. WritesDifferent lits c d verdict old new))
        → (IsSilent r → new ≡ old) → (IsUnwritten r → OfDifferent pairing slice slice' answer (λ c d lits. BeginsDifferent lits c d old new))
        → Ends shown_text shown_status (Answers (DifferentMeans pairing said said' said'')) (Unit {0}) old new (ended_of shows_unsat r)
    ends_different (Ok verdict) line silent unwritten =
        let w = line.holds.holds in (
          answered verdict w.text,
          refl,
          w.appends,
          (
            verdict,
            w.text,
            refl,
            different_means pairing slice slice' items items' answer said said' said'' (e, first) (e', second) same verdict w.text
                (of_different pairing slice slice' answer (λ c d lits. WritesDifferent lits c d verdict old new)
                (λ c d lits. IsDifferentJudged lits c d verdict w.text) line w.judged),
          ),
        )
    ends_different (Err fault) line silent unwritten = elim (told fault) [
      | inl quiet ↦ inl (silent quiet, tt)
      | inr cut ↦
          let b = unwritten cut in
          let w = b.holds.holds in
          inr (
            refl,
            (
              answered w.verdict w.text,
              w.begins,
              (
                w.verdict,
                w.text,
                refl,
                different_means pairing slice slice' items items' answer said said' said'' (e, first) (e', second) same w.verdict w.text
                    (of_different pairing slice slice' answer (λ c d lits. BeginsDifferent lits c d old new)
                    (λ c d lits. IsDifferentJudged lits c d w.verdict w.text) b w.judged),
              ),
            ),
          )
    ]

  -- by a stimulus
  pub ends_reach : (known known' said : Option (List ℕ)) → known ≡ said → (r : Result Reach ReachFault) → IsReachRun known known' r
      → IfOk r (λ reach. Appends old new (reach_line reach)) → (IsSilentReach r → new ≡ old) → (IsUnwrittenReach r → OfReach known known' (BeginsReach old new))
      → Ends shown_text shown_status (Runs (ReachMeans said)) (Unit {0}) old new (ended_of is_reached r)
  ends_reach known known' said same (Ok reach) run line silent unwritten =
      (ran reach, refl, line, (reach, refl, reach_means known known' said same reach run))
  ends_reach known known' said same (Err fault) run line silent unwritten = elim (told_reach fault) [
    | inl quiet ↦ inl (silent quiet, tt)
    | inr cut ↦
        let b = unwritten cut in
        let judged : OfReach known known' (λ c s. IsReachJudged c s b.holds.reach) = record { circuit = b.circuit; says = b.says; stimulus = b.stimulus; says' = b.says'; holds = b.holds.judged } in
        inr (refl, (ran b.holds.reach, b.holds.begins, (b.holds.reach, refl, reach_means known known' said same b.holds.reach judged)))
  ]

-- a formula is written, and nothing is said
appends_none : (text : Option (List ℕ)) → Appends text text []
appends_none None = tt
appends_none (Some xs) = sym (append-nil xs)

pub ends_wrote : (text : Option (List ℕ)) (Holds : Shown → Type 0) (result : Result ℕ Refusal) → IfOk result (λ status. status ≡ 0)
    → (result ≡ Ok 0 → Holds wrote) → Ends shown_text shown_status Holds (Unit {0}) text text result
ends_wrote text Holds (Ok status) zero holds = (wrote, zero, appends_none text, holds (rw zero refl))
ends_wrote text Holds (Err refusal) zero holds = inl (refl, tt)

-- what is shown means more than what is asked
pub means_more : (Holds Holds' : Shown → Type 0) (old new : Option (List ℕ)) → ((shown : Shown) → Holds shown → Holds' shown) → (result : Result ℕ Refusal)
    → Ends shown_text shown_status Holds (Unit {0}) old new result → Ends shown_text shown_status Holds' (Unit {0}) old new result
means_more Holds Holds' old new more result ends = ends_weaker shown_text shown_status Holds Holds' (Unit {0}) (Unit {0}) old new more (λ left. left) result ends

-- and so do the names of files that were given
pub stopped_more : (Kept Stops Stops' : Type 0) → (Stops → Stops') → (result : Result ℕ Refusal)
    → IfErr result (λ refusal. Kept ⊎ ((refusal ≡ Failed) × Stops)) → IfErr result (λ refusal. Kept ⊎ ((refusal ≡ Failed) × Stops'))
stopped_more Kept Stops Stops' more (Ok status) stops = tt
stopped_more Kept Stops Stops' more (Err refusal) (inl same) = inl same
stopped_more Kept Stops Stops' more (Err refusal) (inr stops) = inr (stops.0, more stops.1)
