-- Lines of a proof, by what a checker of hints did with them.
--     takes_line      one line more
--     untaken_line, unread_line      a line that is rejected, or that can't be read
--     text_accepted, text_refused      the text of a reader
use Rattle.std.proofs.Common.{◌≡◌, ℕ, Bool, false, List, [], ◌∷◌, ◌++◌, Option, Some, None, Result, Ok, Err, refl, sym, ◌∙◌}
use Rattle.std.specs.Prelude.{IfErr, OnOk}
use Rattle.sat_rules.specs.HintLines.{Listed}
use Rattle.sat_formula.specs.Readings.{Known}
use Rattle.sat_formula.specs.TakenClauses.{Takes}
use Rattle.lrat_rules.specs.Lines.{Line}
use Rattle.lrat_text.specs.Texts.{Faulty, Outcome, with_line, with_lines}
use Rattle.lrat_text.specs.declared.fault.LineKind.{LineKind}
use Rattle.sat_formula.specs.declared.read_fault.ReadFault.TheVariants as reads
use Rattle.lrat_text.proofs.LineLemmas.{with_lines-more}
use Rattle.lrat_binary.specs.Proofs.{outcome_in}
use Rattle.lrat_binary.specs.TakenLines.{Begins, IsExact, TakesLines, TextSays}
use Rattle.lrat_binary.specs.declared.ids.LratForm.{LratForm}
use Rattle.lrat_binary.specs.declared.ids.LratForm.TheVariants as forms
use Rattle.lrat_binary.specs.declared.sink.UntakenLine.{UntakenLine}
use Rattle.lrat_binary.specs.declared.sink.UntakenLine.TheVariants.{Proof, Sink}
use Rattle.lrat_binary.proofs.GivenLines.{with_lines-none}
use Rattle.hint_checker.specs.Checked.{IsCause, IsRefusalBy, Refuses, after_said, in_line, refusal}
use Rattle.hint_checker.specs.Given.{Stops, as_hints, of_untaken}
use Rattle.hint_checker.specs.Held.{HoldsLittle, holds}
use Rattle.hint_checker.specs.Streams.{GivesText, IsTextRefusal, ReadsAccepted}
use Rattle.hint_checker.specs.Taken.{HasRejected, HasTaken}
use Rattle.hint_checker.specs.declared.checker.HintChecker.{HintChecker}
use Rattle.hint_checker.specs.declared.fault.LineFault.{LineFault}
use Rattle.hint_checker.specs.declared.fault.LineFault.TheVariants as causes
use Rattle.hint_checker.proofs.OutcomeLemmas.{accepts, refuses, runs_more}

-- ---- one line

module _ (first now next : HintChecker) (ls : List Line) (line : Line) (so : HasTaken first ls now) where
  pub takes_line : (r : Result (Unit {0}) LineFault) →
      ((h : Listed) → holds now ≡ Some h → OnOk r ((refusal h (as_hints line) ≡ None) × (holds next ≡ Some (after_said h (as_hints line))))) →
      ((h : Listed) → holds now ≡ Some h → IfErr r (λ fault. IsCause fault (refusal h (as_hints line)) × (holds next ≡ None))) →
      (HoldsLittle now → OnOk r (HoldsLittle next)) → Takes r (HasTaken first (ls ++ line ∷ []) next) (λ fault. HasRejected first ls line fault next)
  takes_line (Ok done) accepted refused small = record {
    leads = λ h e.
        let k = so.leads h e in
        let a = accepted k.0 k.2 in
        (after_said k.0 (as_hints line), runs_more h k.0 ls line k.1 a.0, a.1);
    small = λ s. small (so.small s);
  }
  takes_line (Err fault) accepted refused small = λ h e.
      let k = so.leads h e in
      let r = refused k.0 k.2 in
      (k.0, k.1, r.0, r.1)

-- the fault of a line, by its cause
by_cause : (refuses : ℕ → LineFault → Type 0) (m : ℕ) (fault : LineFault) (o : Option LineFault) → IsCause fault o → ((g : LineFault) → o ≡ Some g → refuses m g) → IsRefusalBy refuses (in_line fault m)
by_cause refuses m causes.Malformed o e r = r causes.Malformed e
by_cause refuses m causes.IdNotGreater o e r = r causes.IdNotGreater e
by_cause refuses m causes.UnknownId o e r = r causes.UnknownId e
by_cause refuses m causes.NotUnit o e r = r causes.NotUnit e
by_cause refuses m causes.NoConflict o e r = r causes.NoConflict e
by_cause refuses m causes.OutOfMemory o e r = tt

-- ---- a line that stops the check, where it is known what stops a text in this form

module _ (form : LratForm) (known : Known) (k : Listed) (lines : List (ℕ × Line)) (refuses : List ℕ → ℕ → LineFault → Type 0)
    (stopped : (text : List ℕ) (later : Outcome) → outcome_in form text ≡ with_lines lines later → (n : ℕ) → IsExact form n → (fault : LineFault) → Stops k later.0 later.1 n fault → refuses text n fault)
    (n : ℕ) (exact : IsExact form n) where
  pub untaken_line : (line : Line) → Begins form known (lines ++ (n, line) ∷ []) → (fault : LineFault) → IsCause fault (refusal k (as_hints line)) →
      (text : List ℕ) × GivesText known text × IsRefusalBy (refuses text) (in_line fault n)
  untaken_line line b fault cause = (
    b.1.text,
    b.1.gives,
    by_cause (refuses b.1.text) n fault (refusal k (as_hints line)) cause
        (λ g is. stopped b.1.text (with_line n line b.0) (b.1.is ∙ sym (with_lines-more lines n line b.0)) n exact g (refl, is)),
  )

  pub unread_line : (kind : LineKind) → TextSays (outcome_in form) known (lines, Faulty n kind) → (text : List ℕ) × GivesText known text × IsRefusalBy (refuses text) (in_line causes.Malformed n)
  unread_line kind t = (t.text, t.gives, stopped t.text ([], Faulty n kind) (t.is ∙ sym (with_lines-none lines (Faulty n kind))) n exact causes.Malformed (refl, refl))

-- ---- the text of a reader

module _ (known : Known) (h : Listed) (first now : HintChecker) (held : holds first ≡ Some h) where
  pub text_accepted : TakesLines forms.Text known (λ (c : HintChecker). false) (HasTaken first) (HasRejected first) now (Ok tt) → (found : Bool) →
      ((k : Listed) → holds now ≡ Some k → found ≡ k.added_empty) → ReadsAccepted known h (holds now) found
  text_accepted t found answer =
      let k = t.1.leads h held in
      record { text = t.2.text; gives = t.2.gives; held = k.0; accepts = accepts h k.0 t.0 k.1 t.2.text t.2.is; holds = k.2; answer = answer k.0 k.2 }

  pub text_refused : (u : UntakenLine LineFault) → TakesLines forms.Text known (λ (c : HintChecker). false) (HasTaken first) (HasRejected first) now (Err u) → IsTextRefusal known h (of_untaken u)
  text_refused (Proof (reads.Read cause)) t =
      let k = t.1.leads h held in
      let cut = t.3.1 in
      record {
        taken = cut.front;
        begun = cut.begun;
        left = cut.left;
        consumed = cut.consumed;
        is_open = cut.is_open;
        held = k.0;
        accepts = accepts h k.0 t.0 k.1 cut.front cut.is;
      }
  text_refused (Proof (reads.Wrong at kind)) t =
      let k = t.1.leads h held in
      unread_line forms.Text known k.0 t.0 (Refuses h) (λ text later e m exact. refuses h k.0 t.0 k.1 text later e m exact) at.0 t.3.1 kind t.3.0
  text_refused (Proof reads.OutOfMemory) t = (t.3.1.text, t.3.1.gives, tt)
  text_refused (Sink n fault) t =
      let k = t.2 h held in
      untaken_line forms.Text known k.0 t.0 (Refuses h) (λ text later e m exact. refuses h k.0 t.0 k.1 text later e m exact) n t.4 t.1 t.3 fault k.2
