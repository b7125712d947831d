-- The lines of a proof, by what a checker of hints did with them.
--     proof_accepted, proof_refused      all of them were accepted;  or one was not
use Rattle.std.proofs.Common.{◌≡◌, ℕ, Bool, false, List, Some, Ok, Err}
use Rattle.sat_rules.specs.HintLines.{Listed}
use Rattle.sat_formula.specs.Readings.{Known}
use Rattle.lrat_rules.specs.Lines.{Line}
use Rattle.lrat_text.specs.Texts.{Ended, Outcome, with_lines}
use Rattle.sat_formula.specs.declared.read_fault.ReadFault.TheVariants as reads
use Rattle.lrat_binary.specs.Proofs.{outcome_in}
use Rattle.lrat_binary.specs.TakenLines.{IsExact, TakesLines}
use Rattle.lrat_binary.specs.declared.ids.LratForm.{LratForm}
use Rattle.lrat_binary.specs.declared.ids.LratForm.TheVariants as forms
use Rattle.lrat_binary.specs.declared.sink.UntakenLine.{UntakenLine}
use Rattle.lrat_binary.specs.declared.sink.UntakenLine.TheVariants.{Proof, Sink}
use Rattle.hint_checker.specs.Given.{Stops, of_untaken}
use Rattle.hint_checker.specs.Held.{holds}
use Rattle.hint_checker.specs.Taken.{HasRejected, HasTaken}
use Rattle.hint_checker.specs.declared.checker.HintChecker.{HintChecker}
use Rattle.hint_checker.specs.declared.fault.LineFault.{LineFault}
use Rattle.hint_checker.proofs.OutcomeLemmas.{Run, accepts, refuses, run_leads}
use Rattle.hint_checker.proofs.StreamLemmas.{unread_line, untaken_line}
use Rattle.hint_check.specs.Proofs.{AcceptsIn, AcceptsProof, IsProofRefusal, RefusesIn}

-- ---- lines that are given, as those of a text in this form

module _ (h k : Listed) (xs : List (ℕ × Line)) (run : Run h xs k) (bytes : List ℕ) where
  -- all of them
  accepted : (form : LratForm) → outcome_in form bytes ≡ (xs, Ended) → AcceptsIn form h bytes k
  accepted forms.Text e = accepts h k xs run bytes e
  accepted (forms.Binary ids) e = record { given = xs; says = e; leads_to = run_leads h k xs run }

  -- those before one that is rejected, or can't be read
  stopped : (form : LratForm) (later : Outcome) → outcome_in form bytes ≡ with_lines xs later → (m : ℕ) → IsExact form m →
      (fault : LineFault) → Stops k later.0 later.1 m fault → RefusesIn form h bytes m fault
  stopped forms.Text later e m below fault stops = refuses h k xs run bytes later e m below fault stops
  stopped (forms.Binary ids) later e m below fault stops = record { before = xs; later = later; cut = e; held = k; leads_to = run_leads h k xs run; stops = stops }

-- ---- the lines of a proof

module _ (form : LratForm) (known : Known) (h : Listed) (first now : HintChecker) (held : holds first ≡ Some h) where
  pub proof_accepted : TakesLines form known (λ (c : HintChecker). false) (HasTaken first) (HasRejected first) now (Ok tt) → (found : Bool) →
      ((k : Listed) → holds now ≡ Some k → found ≡ k.added_empty) → AcceptsProof form known h found
  proof_accepted t found answer =
      let k = t.1.leads h held in
      record { text = t.2.text; gives = t.2.gives; held = k.0; accepts = accepted h k.0 t.0 k.1 t.2.text form t.2.is; answer = answer k.0 k.2 }

  pub proof_refused : (u : UntakenLine LineFault) → TakesLines form known (λ (c : HintChecker). false) (HasTaken first) (HasRejected first) now (Err u) → IsProofRefusal form known h (of_untaken u)
  proof_refused (Proof (reads.Read cause)) t = tt
  proof_refused (Proof (reads.Wrong at kind)) t =
      let k = t.1.leads h held in
      unread_line form known k.0 t.0 (RefusesIn form h) (λ text. stopped h k.0 t.0 k.1 text form) at.0 t.3.1 kind t.3.0
  proof_refused (Proof reads.OutOfMemory) t = (t.3.1.text, t.3.1.gives, tt)
  proof_refused (Sink n fault) t =
      let k = t.2 h held in
      untaken_line form known k.0 t.0 (RefusesIn form h) (λ text. stopped h k.0 t.0 k.1 text form) n t.4 t.1 t.3 fault k.2
