-- The lines of a proof, by what a converter did with them.
--     run-more      one line more at the end
--     takes_line      what was done with it
--     converts, unread, stopped      all lines were converted;  the next one can't be read;  it was not converted
--     given_up, given_up_first, begun_end      a proof that was given up, before its lines and after them
use Rattle.std.proofs.Common.{◌≡◌, ℕ, Bool, true, false, List, [], ◌∷◌, ◌++◌, ◌⊎◌, inl, inr, Option, Some, None, Result, Ok, Err, MatchBool, refl, sym, ap, ◌∙◌, append-nil, subst, cond}
use Rattle.std.specs.Prelude.{IfErr, IfSome, OnOk}
use Rattle.sat_formula.specs.TakenClauses.{Takes}
use Rattle.lrat_rules.specs.Lines.{Line}
use Rattle.lrat_text.specs.Texts.{Ended, Ending, Faulty, Outcome, with_lines}
use Rattle.sat_formula.specs.declared.read_fault.ReadFault.TheVariants as reads
use Rattle.lrat_text.specs.Faults.{LratTextFault}
use Rattle.lrat_binary.specs.Proofs.{BeginsWith, SaysAll, outcome_in}
use Rattle.lrat_binary.specs.TakenLines.{Begins, FailsAfter, IsToldForm, TextSays, said}
use Rattle.lrat_binary.specs.declared.ids.Ids.{Ids}
use Rattle.lrat_binary.specs.declared.ids.LratForm.{LratForm}
use Rattle.lrat_binary.proofs.GivenLines.{begins_less, said-more, told_says}
use Rattle.lrat_binary.proofs.ReadLemmas.{Known}
use Rattle.lrat_to_proof.specs.Converting.{Converted, next, next_open, run, then_run, whole}
use Rattle.lrat_to_proof.specs.Faults.{IsCause, IsGivenUp, IsRefusal, giving_up, in_line, of_text}
use Rattle.lrat_to_proof.specs.Runs.{ConvertsLines, IsBegun, IsStopped, Leads, proof_says}
use Rattle.lrat_to_proof.specs.Standing.{HasBegun, HasConverted, Reaches, StopsIn, holding_of}
use Rattle.lrat_to_proof.specs.Taken.{HasStopped, HasTaken, StopsAt}
use Rattle.lrat_to_proof.specs.declared.converter.Converter.{Converter}
use Rattle.lrat_to_proof.specs.declared.fault.ConvertFault.{ConvertFault}
use Rattle.lrat_to_proof.specs.declared.fault.GivenUp.{GivenUp}
use Rattle.lrat_to_proof.specs.declared.fault.GivenUp.TheVariants as reasons
use Rattle.lrat_to_proof.specs.declared.fault.LineCause.{LineCause}
use Rattle.lrat_to_proof.specs.declared.fault.Stop.{Stop}
use Rattle.lrat_to_proof.specs.declared.fault.Stop.TheVariants as stops
use Rattle.lrat_to_proof.proofs.BegunLemmas.{begun_to_end, begun_whole}

-- ---- runs

then_run-ok : (r : Result Converted LineCause) → then_run r (λ c. Ok c) ≡ r
then_run-ok (Err cause) = refl
then_run-ok (Ok c) = refl

run-after : (width : ℕ) (ms : List Line) (l : Line) → ((d : Converted) → run width d (ms ++ l ∷ []) ≡ then_run (run width d ms) (λ e. next_open width e l)) → (r : Result Converted LineCause) →
    then_run r (λ d. run width d (ms ++ l ∷ [])) ≡ then_run (then_run r (λ d. run width d ms)) (λ d. next_open width d l)
run-after width ms l later (Err cause) = refl
run-after width ms l later (Ok d) = later d

run-more : (width : ℕ) (c : Converted) (ls : List Line) (l : Line) → run width c (ls ++ l ∷ []) ≡ then_run (run width c ls) (λ d. next_open width d l)
run-more width c [] l = then_run-ok (next_open width c l)
run-more width c (m ∷ ms) l = run-after width ms l (λ d. run-more width d ms l) (next_open width c m)

run_on : (width : ℕ) (c d e : Converted) (ls : List Line) (l : Line) → run width c ls ≡ Ok d → d.held.refuted ≡ false → next width d l ≡ Ok e → run width c (ls ++ l ∷ []) ≡ Ok e
run_on width c d e ls l ran is_open more =
    run-more width c ls l ∙ ap (λ r. then_run r (λ d. next_open width d l)) ran ∙ ap (λ b. cond b (Ok d) (next width d l)) is_open ∙ more

-- whether the converter wants no more is what is known of the lines so far
done-is : (width : ℕ) (start now : Option (List ℕ)) (c : Converted) (x : Converter) (b : Bool) → HasConverted width start now c x → (holding_of x.held).refuted ≡ b → c.held.refuted ≡ b
done-is width start now c x b h e = subst (λ held. held.refuted ≡ b) h.held e

-- ---- one line

-- P and Q are what else is known of the sink
module _ {P Q W : Type 0} (p : P) (q : Q) (contents : W → Option (List ℕ)) (old : Option (List ℕ)) (x : Converter) (ls : List Line) (v : W) (y : Converter) (so : HasTaken old x ls (contents v) y)
    (line : Line) (wanted : (holding_of y.held).refuted ≡ false) (w : W) (z : Converter) where
  pub takes_line : (r : Result (Unit {0}) Stop) →
      ((width : ℕ) (start : Option (List ℕ)) (c : Converted) → HasConverted width start (contents v) c y → OnOk r (Reaches width start (contents w) (next width c line) z)) →
      ((width : ℕ) (start : Option (List ℕ)) (c : Converted) → HasConverted width start (contents v) c y → IfErr r (λ stop. IsCause stop (next width c line))) →
      IfErr r (λ stop. IsRefusal stop → w ≡ v) →
      ((width : ℕ) (start : Option (List ℕ)) (c : Converted) → HasConverted width start (contents v) c y → IfErr r (λ stop. IsGivenUp stop → StopsIn start (contents w) c (next width c line))) →
      Takes r (P × Q × HasTaken old x (ls ++ line ∷ []) (contents w) z) (λ stop. P × Q × HasStopped old x ls line stop (contents w))
  takes_line (Ok done) ok err kept given_up = (
    p,
    q,
    λ width start c h.
        let d = so width start c h in
        let reached = ok width start d.0 d.2 in
        (reached.after, run_on width c d.0 reached.after ls line d.1 (done-is width start (contents v) d.0 y false d.2 wanted) reached.ran, reached.stands),
  )
  takes_line (Err stop) ok err kept given_up = (
    p,
    q,
    λ width start c h.
        let d = so width start c h in
        record {
          before = d.0;
          ran = d.1;
          is_open = done-is width start (contents v) d.0 y false d.2 wanted;
          cause = err width start d.0 d.2;
          written = λ r. rw (kept r) d.2.written.bytes;
          begun = given_up width start d.0 d.2;
        },
  )

-- ---- a proof

-- nothing more could be written
pub given_up : (says : List ℕ → Outcome) (known : Known) (width : ℕ) (c : Converted) (start now : Option (List ℕ)) (why : GivenUp) →
    IsBegun says known width c start now → IsStopped says known width c start now (giving_up why)
given_up says known width c start now (reasons.Write cause) begun = begun
given_up says known width c start now reasons.OutOfMemory begun = begun

module _ (ids : Option Ids) (n : ℕ) (known : Known) (form : LratForm) (told : IsToldForm ids n known form) (width : ℕ) (c : Converted) (start now : Option (List ℕ)) (lines : List (ℕ × Line)) where
  says_so : (o : Outcome) → TextSays (outcome_in form) known o → IfSome known (λ bytes. proof_says ids n bytes ≡ o)
  says_so = told_says ids n known form told

  begins_so : (ls : List (ℕ × Line)) → Begins form known ls → BeginsWith (proof_says ids n) known ls
  begins_so ls b = (b.0, says_so (with_lines ls b.0) b.1)

  -- all lines were converted, or those up to the last that is needed
  pub converts : (x : Converter) → (d : Converted) × (run width c (said lines) ≡ Ok d) × HasConverted width start now d x →
      MatchBool (holding_of x.held).refuted (Begins form known lines) (TextSays (outcome_in form) known (lines, Ended)) → ConvertsLines (proof_says ids n) known width c start now x (Ok tt)
  converts x took text = (
    lines,
    took.0,
    record {
      text = go took.0.held.refuted (subst (λ held. MatchBool held.refuted (Begins form known lines) (TextSays (outcome_in form) known (lines, Ended))) took.2.held text);
      ran = took.1;
    },
    took.2,
  )
    where
      go : (b : Bool) → MatchBool b (Begins form known lines) (TextSays (outcome_in form) known (lines, Ended)) →
          MatchBool b (BeginsWith (proof_says ids n) known lines) (SaysAll (proof_says ids n) known lines Ended)
      go true t = begins_so lines t
      go false t = says_so (lines, Ended) t

  -- the next one can't be read
  pub unread : (x : Converter) → (d : Converted) × (run width c (said lines) ≡ Ok d) × HasConverted width start now d x → (holding_of x.held).refuted ≡ false →
      (fault : LratTextFault) → FailsAfter form known lines fault → IsStopped (proof_says ids n) known width c start now (of_text fault)
  unread x took wanted (reads.Read cause) f = record { lines = lines; after = took.0; text = begins_so lines f.0; ran = took.1; written = took.2.written.bytes }
  unread x took wanted (reads.Wrong at kind) f = record {
    lines = lines;
    before = took.0;
    text = says_so (lines, Faulty at.0 kind) f.0;
    ran = took.1;
    is_open = done-is width start now took.0 x false took.2 wanted;
    written = took.2.written.bytes;
  }
  unread x took wanted reads.OutOfMemory f = record {
    lines = lines;
    after = took.0;
    text = begins_so lines f;
    ran = took.1;
    written = begun_to_end start now took.0 (begun_whole start now took.0.steps took.2.written.bytes);
  }

  module _ (m : ℕ) (line : Line) (b : Begins form known (lines ++ (m, line) ∷ [])) where
    -- it was given up
    begun_in : (before d : Converted) → run width c (said lines) ≡ Ok before → before.held.refuted ≡ false → (d ≡ before) ⊎ (next width before line ≡ Ok d) → HasBegun start now d.steps →
        IsBegun (proof_says ids n) known width c start now
    begun_in before d ran is_open (inl e) begun = record {
      lines = lines;
      after = before;
      text = begins_so lines (begins_less form known lines m line b);
      ran = ran;
      written = begun_to_end start now before (rw e at begun);
    }
    begun_in before d ran is_open (inr e) begun = record {
      lines = lines ++ (m, line) ∷ [];
      after = d;
      text = begins_so (lines ++ (m, line) ∷ []) b;
      ran = ap (run width c) (said-more lines m line) ∙ run_on width c before d (said lines) line ran is_open e;
      written = begun_to_end start now d begun;
    }

    -- it was not converted
    pub stopped : (stop : Stop) → StopsAt width start now c (said lines) line stop → IsStopped (proof_says ids n) known width c start now (in_line stop m)
    stopped (stops.Refused cause) s = record {
      lines = lines;
      line = line;
      before = s.before;
      text = begins_so (lines ++ (m, line) ∷ []) b;
      ran = s.ran;
      is_open = s.is_open;
      refused = s.cause;
      written = s.written tt;
    }
    stopped (stops.GivenUp why) s =
        let in_line = s.begun tt in
        given_up (proof_says ids n) known width c start now why (begun_in s.before in_line.upto s.ran s.is_open in_line.is in_line.begun)

-- ---- where the sink has ended

-- its references end as what it left behind them
pub converts_as : {W : Type 0} (contents : W → Option (List ℕ)) (says : List ℕ → Outcome) (known : Known) (width : ℕ) (c : Converted) (start : Option (List ℕ)) (o n : W) (y x : Converter)
    (r : Result (Unit {0}) ConvertFault) → o ≡ n → y ≡ x → ConvertsLines says known width c start (contents n) x r → ConvertsLines says known width c start (contents o) y r
converts_as contents says known width c start o n y x r e f p =
    subst (λ v. ConvertsLines says known width c start (contents v) y r) (sym e) (subst (λ z. ConvertsLines says known width c start (contents n) z r) (sym f) p)

-- ---- before the lines, and after them

nothing_said : (says : List ℕ → Outcome) (known : Known) → BeginsWith says known []
nothing_said says None = (([], Ended), tt)
nothing_said says (Some bytes) = (says bytes, refl)

-- what is all said is a beginning
begins_all : (says : List ℕ → Outcome) (known : Known) (lines : List (ℕ × Line)) (ending : Ending) → SaysAll says known lines ending → BeginsWith says known lines
begins_all says None lines ending p = (([], ending), tt)
begins_all says (Some bytes) lines ending p = (([], ending), p ∙ ap (λ (ls : List (ℕ × Line)). (ls, ending)) (sym (append-nil lines)))

begins_led : (says : List ℕ → Outcome) (known : Known) (lines : List (ℕ × Line)) (found : Bool) → MatchBool found (BeginsWith says known lines) (SaysAll says known lines Ended) → BeginsWith says known lines
begins_led says known lines true p = p
begins_led says known lines false p = begins_all says known lines Ended p

module _ (says : List ℕ → Outcome) (known : Known) (width : ℕ) (c : Converted) (start now : Option (List ℕ)) where
  -- no line was taken
  pub given_up_first : (why : GivenUp) → HasBegun start now c.steps → IsStopped says known width c start now (giving_up why)
  given_up_first why begun =
      given_up says known width c start now why (record { lines = []; after = c; text = nothing_said says known; ran = refl; written = begun_to_end start now c begun })

  -- all lines were
  pub begun_end : (lines : List (ℕ × Line)) (d : Converted) → Leads says known width c lines d → HasBegun start now (whole d) → IsBegun says known width c start now
  begun_end lines d leads begun = record { lines = lines; after = d; text = begins_led says known lines d.held.refuted leads.text; ran = leads.ran; written = begun }
