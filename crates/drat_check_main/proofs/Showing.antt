-- What a verdict shows of the files of its call, and what a call leaves that shows none.
use Rattle.std.proofs.Common.{◌≡◌, ◌≢◌, ◌∙◌, ℕ, ◌⊎◌, inl, inr, List, [], Option, Some, None, Result, Ok, Err, ap, refl, rules, is_some}
use Rattle.std.specs.Io.Buffered.{writer_contents}
use Rattle.std.specs.Prelude.{IfErr, IsNone, IsSome}
use Rattle.std.specs.declared.io.buffered.BufWriter.{BufWriter}
use Rattle.command.specs.Calls.{choices_of}
use Rattle.command.specs.Outputs.{begun}
use Rattle.command.specs.declared.call.Call.{Call}
use Rattle.drat_check.specs.Outputs.{WritesFor}
use Rattle.drat_check.specs.PieceCores.{CoreShown, WritesPieceCore}
use Rattle.drat_check.specs.Pieces.{WritesPiece, WritesShown}
use Rattle.drat_check.specs.declared.fault.RunFault.{RunFault}
use Rattle.drat_check.specs.declared.piece_fault.PieceFault.{PieceFault}
use Rattle.drat_check.specs.declared.outputs.Outputs.{Outputs}
use Rattle.drat_check_main.proofs.Naming.{Given, IsKnown, appended_known, kept_known, named_all, names_none, names_some}
use Rattle.drat_check_main.specs.Named.{GivesAll, GivesSome, LeavesReached, NamesPiece, NamesProof, NamesReached, NamesSome, Written, bytes_of, core_name, empty_outputs, form_asked, lrat_name, trim_name}
use Rattle.drat_check_main.specs.Pieces.{piece_of}
use Rattle.drat_check_main.specs.Shown.{Leaves, ShowsPiece, ShowsProof}
use Rattle.receipt_files.proofs.Leaving.{gives_receipt}
use Rattle.receipt_files.specs.Named.{carries_of, held_by, receipt_in, refuted_of}
use Rattle.sat_formula.specs.Refuted.{IsRefuted}
use Rattle.sat_output.specs.declared.form.LineForm.{LineForm}
use Rattle.verdicts.specs.Pieces.{shows_wanted}
use Rattle.verdicts.specs.Statuses.{Ends, ended_of, status_of}
use Rattle.verdicts.specs.Texts.{CarriesText, OfFormula, OfFormulas}
use Rattle.verdicts.specs.declared.piece.PieceVerdict.{PieceVerdict}
use Rattle.verdicts.specs.declared.piece.PieceVerdict.TheVariants.{Carried, NotCarried, Refuted}
use Rattle.verdicts.specs.declared.status.Refusal.{Refusal}
use Rattle.verdicts.specs.declared.status.Refusal.TheVariants.{Failed, NotRun}
use Rattle.verdicts.specs.declared.verdict.Verdict.{Verdict}
use Rattle.verdicts.specs.declared.verdict.Verdict.TheVariants.{NotVerified, Verified}

-- ---- a whole proof as a piece

pub whole_refuted : (q : Result Verdict RunFault) → piece_of q ≡ Ok Refuted → q ≡ Ok Verified
whole_refuted (Ok Verified) is = refl
whole_refuted (Ok NotVerified) is = absurd (cc)
whole_refuted (Err fault) is = absurd (cc)

whole_open : (q : Result Verdict RunFault) → piece_of q ≡ Ok NotCarried → q ≡ Ok NotVerified
whole_open (Ok NotVerified) is = refl
whole_open (Ok Verified) is = absurd (cc)
whole_open (Err fault) is = absurd (cc)

never_carried : (q : Result Verdict RunFault) → piece_of q ≡ Ok Carried → ⊥
never_carried (Ok Verified) is = cc
never_carried (Ok NotVerified) is = cc
never_carried (Err fault) is = cc

status_open : {E : Type 0} (r : Result PieceVerdict E) → r ≡ Ok NotCarried → status_of shows_wanted r ≢ 0
status_open (Ok NotCarried) is zero = cc
status_open (Ok Refuted) is zero = cc
status_open (Ok Carried) is zero = cc
status_open (Err fault) is zero = cc

-- ---- a call without a verdict

module _ (unwritten : Option (List ℕ)) (place : List ℕ → Option (List ℕ)) (call : Call) where
  leaves_none : (old new : Given) → new ≡ old → (refusal : Refusal) → Leaves unwritten place call old new refusal
  leaves_none old new same NotRun = same
  leaves_none old new same Failed = λ fresh. names_none place (choices_of call) old new same

  -- before anything was done
  pub refused : (line : PieceVerdict → List ℕ) (status : PieceVerdict → ℕ) (Holds : PieceVerdict → Type 0) (text : Option (List ℕ)) (named : Given) (refusal : Refusal)
      → Ends line status Holds (Leaves unwritten place call named named refusal) text text (Err refusal)
  refused line status Holds text named refusal = inl (refl, leaves_none named named refl refusal)

  -- once it was run
  pub leaves_failed : {E : Type 0} (old new : Given) (r : Result PieceVerdict E) → (unwritten ≡ Some [] → NamesSome place (choices_of call) old new)
      → IfErr (ended_of shows_wanted r) (Leaves unwritten place call old new)
  leaves_failed old new (Ok verdict) some = tt
  leaves_failed old new (Err fault) some = some

-- ---- a whole proof

module _ {F A : Type 0} (contents : F → Option (List ℕ)) (unwritten : Option (List ℕ)) (place : List ℕ → Option (List ℕ)) (call : Call)
    (s s' : Outputs (BufWriter F A) (BufWriter F A)) (held : Option (List ℕ)) (old new : Given)
    (empty : unwritten ≡ Some [] → bytes_of contents s ≡ empty_outputs (choices_of call)) where
  abbrev WritesWhole : Verdict → Type 0
  WritesWhole verdict = OfFormula held (λ formula. WritesFor formula (writer_contents contents) (writer_contents contents) s s' verdict) ⊎ ⊥

  names_proof : unwritten ≡ Some [] → s.form ≡ form_asked (choices_of call) → WritesWhole Verified → (named : Given)
      → GivesAll place (choices_of call) (bytes_of contents s') old named → OfFormula held (NamesProof place (choices_of call) old named)
  names_proof fresh form (inr none) named gives = absurd none
  names_proof fresh form (inl run) named gives = record {
    formula = run.formula;
    whole = run.whole;
    holds = record {
      written = bytes_of contents s';
      proof = rw (← form, ← ap (λ (w : Written). w.lrat) (empty fresh), ← ap (λ (w : Written). w.trim) (empty fresh)) run.holds.0;
      used = rw (← ap (λ (w : Written). w.core) (empty fresh)) run.holds.1;
      named = gives;
    };
  }

  names_empty : unwritten ≡ Some [] → WritesWhole NotVerified → GivesAll place (choices_of call) (bytes_of contents s') old new
      → GivesAll place (choices_of call) (empty_outputs (choices_of call)) old new
  names_empty fresh (inr none) gives = absurd none
  names_empty fresh (inl run) gives = rw (← empty fresh, ← run.holds) gives

  verdict_some : unwritten ≡ Some [] → (verdict : Verdict) → WritesWhole verdict → GivesSome place (choices_of call) (bytes_of contents s') old new
      → NamesSome place (choices_of call) old new
  verdict_some fresh verdict (inr none) gives = absurd none
  verdict_some fresh Verified (inl run) gives = names_some place (choices_of call) old new (bytes_of contents s')
      (appended_known (lrat_name (choices_of call)) _ _ _ (ap (λ (w : Written). w.lrat) (empty fresh)) run.holds.0.text)
      (appended_known (trim_name (choices_of call)) _ _ _ (ap (λ (w : Written). w.trim) (empty fresh)) run.holds.0.trimmed)
      (appended_known (core_name (choices_of call)) _ _ _ (ap (λ (w : Written). w.core) (empty fresh)) run.holds.1.text) gives
  verdict_some fresh NotVerified (inl run) gives =
      let same : bytes_of contents s' ≡ empty_outputs (choices_of call) = ap (bytes_of contents) run.holds ∙ empty fresh in
      names_some place (choices_of call) old new (bytes_of contents s')
      (kept_known (lrat_name (choices_of call)) _ (ap (λ (w : Written). w.lrat) same))
      (kept_known (trim_name (choices_of call)) _ (ap (λ (w : Written). w.trim) same))
      (kept_known (core_name (choices_of call)) _ (ap (λ (w : Written). w.core) same)) gives

  -- what is left of a verdict that was not shown
  pub whole_left : (q : Result Verdict RunFault) → ((verdict : Verdict) → q ≡ Ok verdict → WritesWhole verdict)
      → LeavesReached place (choices_of call) (bytes_of contents s') (piece_of q) old new
      → unwritten ≡ Some [] → NamesSome place (choices_of call) old new
  whole_left (Ok Verified) run left fresh = verdict_some fresh Verified (run Verified refl) left
  whole_left (Ok NotVerified) run left fresh = verdict_some fresh NotVerified (run NotVerified refl) left
  whole_left (Err fault) run left fresh = names_none place (choices_of call) old new left

  -- what a verdict shows, once all have their names
  pub whole_shown : (q : Result Verdict RunFault) (cnf : Option (List ℕ)) (receipt : Option F)
      → ((verdict : Verdict) → q ≡ Ok verdict → WritesWhole verdict)
      → s.form ≡ form_asked (choices_of call)
      → ((text : List ℕ) → cnf ≡ Some text → held ≡ Some text)
      → ((text : List ℕ) → held ≡ Some text → q ≡ Ok Verified → IsRefuted text)
      → ((text : List ℕ) → cnf ≡ Some text → unwritten ≡ Some [] → piece_of q ≡ Ok Refuted
      → held_by contents receipt ≡ receipt_in (choices_of call) (refuted_of text))
      → (status_of shows_wanted (piece_of q) ≢ 0 → receipt ≡ None)
      → (verdict : PieceVerdict)
      → NamesReached place (choices_of call) contents (bytes_of contents s') receipt (piece_of q) old new verdict
      → ShowsProof unwritten place call old new cnf verdict
  whole_shown q cnf receipt run form bytes refutes said none Carried reached = absurd (never_carried q reached.0)
  whole_shown q cnf receipt run form bytes refutes said none NotCarried reached = λ fresh.
      names_empty fresh (run NotVerified (whole_open q reached.0))
      (named_all place (choices_of call) old new contents (bytes_of contents s') receipt (none (status_open (piece_of q) reached.0)) reached.1)
  whole_shown q cnf receipt run form bytes refutes said none Refuted reached = λ text known. (
    refutes text (bytes text known) (whole_refuted q reached.0),
    λ fresh. record {
      outputs = reached.1.outputs;
      named = rw (bytes text known) at (names_proof fresh form (run Verified (whole_refuted q reached.0)) reached.1.outputs reached.1.named);
      receipt_named = gives_receipt contents place (choices_of call) (refuted_of text) receipt _ _ (said text known fresh reached.0) reached.1.receipt_named;
    },
  )

-- ---- a piece

-- no core is made where none is wanted, and else one is
none_made : {C : Type 0} (core : Option C) (name : Option (List ℕ)) → is_some core ≡ is_some name → name ≡ None → IsNone core
none_made None name same none = search rules
none_made (Some w) None same none = absurd (cc)
none_made (Some w) (Some x) same none = absurd (cc)

some_made : {C : Type 0} (core : Option C) (name : Option (List ℕ)) → is_some core ≡ is_some name → IsSome name → IsSome core
some_made (Some w) name same some = search rules
some_made None (Some x) same some = absurd (cc)
some_made None None same some = search rules

core_of : (cnf holds clauses clauses' : Option (List ℕ)) (verdict : PieceVerdict) → WritesPieceCore cnf holds clauses clauses' (Ok verdict)
    → OfFormulas cnf holds (λ formula wanted. CoreShown formula wanted clauses clauses' verdict)
core_of cnf holds clauses clauses' verdict (inl of) = of
core_of cnf holds clauses clauses' verdict (inr unread) = absurd unread.0

core_known : (formula wanted : List (List ℕ)) (name core core' : Option (List ℕ)) (verdict : PieceVerdict) → core ≡ begun name
    → CoreShown formula wanted core core' verdict → IsKnown name core'
core_known formula wanted name core core' Refuted clauses shown = appended_known name core core' _ clauses shown.text
core_known formula wanted name core core' Carried clauses shown = appended_known name core core' _ clauses shown.text
core_known formula wanted name core core' NotCarried clauses same = kept_known name core' (same ∙ clauses)

-- after a verdict the bytes of the lines are known if no core is made, and else none were written
module _ {C : Type 0} (form : LineForm) (lrat lrat' cnf holds : Option (List ℕ)) where
  abbrev WritesLines : Option C → PieceVerdict → Type 0
  WritesLines core verdict = IsNone core → OfFormulas cnf holds (λ formula wanted. WritesShown form formula wanted lrat lrat' verdict)

  lines_known : (name : Option (List ℕ)) (core : Option C) (verdict : PieceVerdict) → lrat ≡ begun name → (IsSome core → lrat' ≡ lrat)
      → WritesLines core verdict → IsKnown name lrat'
  lines_known name (Some w) verdict lines apart run = kept_known name lrat' (apart (search rules) ∙ lines)
  lines_known name None Refuted lines apart run = appended_known name lrat lrat' _ lines (run (search rules)).holds.holds.text
  lines_known name None Carried lines apart run = appended_known name lrat lrat' _ lines (run (search rules)).holds.holds.text
  lines_known name None NotCarried lines apart run = kept_known name lrat' ((run (search rules)).holds.holds ∙ lines)

  lines_kept : (core : Option C) → (IsSome core → lrat' ≡ lrat) → WritesLines core NotCarried → lrat' ≡ lrat
  lines_kept (Some w) apart run = apart (search rules)
  lines_kept None apart run = (run (search rules)).holds.holds

module _ {F C : Type 0} (contents : F → Option (List ℕ)) (unwritten : Option (List ℕ)) (place : List ℕ → Option (List ℕ)) (call : Call)
    (core : Option C) (form : LineForm) (lrat lrat' clauses clauses' held target : Option (List ℕ)) (old new : Given)
    (untrimmed : trim_name (choices_of call) ≡ None)
    (lines_empty : unwritten ≡ Some [] → lrat ≡ begun (lrat_name (choices_of call)))
    (clauses_empty : unwritten ≡ Some [] → clauses ≡ begun (core_name (choices_of call)))
    (apart : IsSome core → lrat' ≡ lrat) where
  abbrev written : Written
  written = record { lrat = lrat'; trim = None; core = clauses' }

  -- what is left of a verdict that was not shown
  pub piece_left : (r : Result PieceVerdict PieceFault) → (IsNone core → WritesPiece form held target lrat lrat' r)
      → WritesPieceCore held target clauses clauses' r
      → LeavesReached place (choices_of call) written r old new → unwritten ≡ Some [] → NamesSome place (choices_of call) old new
  piece_left (Err fault) run used left fresh = names_none place (choices_of call) old new left
  piece_left (Ok verdict) run used left fresh = let of = core_of held target clauses clauses' verdict used in
      names_some place (choices_of call) old new written
      (lines_known form lrat lrat' held target (lrat_name (choices_of call)) core verdict (lines_empty fresh) apart run)
      (rw untrimmed tt)
      (core_known of.formula of.holds.formula (core_name (choices_of call)) clauses clauses' verdict (clauses_empty fresh) of.holds.holds) left

  names_piece : form ≡ form_asked (choices_of call) → is_some core ≡ is_some (core_name (choices_of call)) → unwritten ≡ Some [] → (verdict : PieceVerdict)
      → (IsNone core → WritesPiece form held target lrat lrat' (Ok verdict))
      → WritesPieceCore held target clauses clauses' (Ok verdict)
      → (named : Given) → GivesAll place (choices_of call) written old named
      → NamesPiece place (choices_of call) held target verdict old named
  names_piece formed wanted fresh verdict run used named gives = record {
    lrat = lrat';
    core = clauses';
    lines = λ none. rw (← formed, ← lines_empty fresh) (run (none_made core (core_name (choices_of call)) wanted none));
    apart = λ some. apart (some_made core (core_name (choices_of call)) wanted some) ∙ lines_empty fresh;
    used = rw (← clauses_empty fresh) (core_of held target clauses clauses' verdict used);
    named = gives;
  }

  names_nothing : unwritten ≡ Some [] → (IsNone core → WritesPiece form held target lrat lrat' (Ok NotCarried))
      → WritesPieceCore held target clauses clauses' (Ok NotCarried)
      → GivesAll place (choices_of call) written old new → GivesAll place (choices_of call) (empty_outputs (choices_of call)) old new
  names_nothing fresh run used gives =
      let lines : lrat' ≡ begun (lrat_name (choices_of call)) = lines_kept form lrat lrat' held target core apart run ∙ lines_empty fresh in
      let kept : clauses' ≡ begun (core_name (choices_of call)) = (core_of held target clauses clauses' NotCarried used).holds.holds ∙ clauses_empty fresh in
      let none : None ≡ begun (trim_name (choices_of call)) = rw untrimmed refl in
      rw (← lines, ← kept, ← none) gives

  -- what a verdict shows, once all have their names
  pub piece_shown : (r : Result PieceVerdict PieceFault) (cnf holds : Option (List ℕ)) (receipt : Option F)
      → (IsNone core → WritesPiece form held target lrat lrat' r)
      → WritesPieceCore held target clauses clauses' r
      → form ≡ form_asked (choices_of call) → is_some core ≡ is_some (core_name (choices_of call))
      → ((text : List ℕ) → cnf ≡ Some text → held ≡ Some text)
      → ((wanted : List ℕ) → holds ≡ Some wanted → target ≡ Some wanted)
      → ((text : List ℕ) → held ≡ Some text → r ≡ Ok Refuted → IsRefuted text)
      → ((text wanted : List ℕ) → held ≡ Some text → target ≡ Some wanted → r ≡ Ok Carried → CarriesText text wanted)
      → ((text : List ℕ) → cnf ≡ Some text → unwritten ≡ Some [] → r ≡ Ok Refuted
      → held_by contents receipt ≡ receipt_in (choices_of call) (refuted_of text))
      → ((text wanted : List ℕ) → cnf ≡ Some text → holds ≡ Some wanted → unwritten ≡ Some [] → r ≡ Ok Carried
      → held_by contents receipt ≡ receipt_in (choices_of call) (carries_of text wanted))
      → (status_of shows_wanted r ≢ 0 → receipt ≡ None)
      → (verdict : PieceVerdict) → NamesReached place (choices_of call) contents written receipt r old new verdict
      → ShowsPiece unwritten place call old new cnf holds verdict
  piece_shown r cnf holds receipt run used formed made bytes others refutes carries refuted carried none NotCarried reached = λ fresh.
      names_nothing fresh (rw reached.0 at run) (rw reached.0 at used)
      (named_all place (choices_of call) old new contents written receipt (none (status_open r reached.0)) reached.1)
  piece_shown r cnf holds receipt run used formed made bytes others refutes carries refuted carried none Refuted reached = λ text wanted known other. (
    refutes text (bytes text known) reached.0,
    λ fresh. record {
      outputs = reached.1.outputs;
      named = rw (bytes text known, others wanted other) at (names_piece formed made fresh Refuted (rw reached.0 at run) (rw reached.0 at used) reached.1.outputs reached.1.named);
      receipt_named = gives_receipt contents place (choices_of call) (refuted_of text) receipt _ _ (refuted text known fresh reached.0) reached.1.receipt_named;
    },
  )
  piece_shown r cnf holds receipt run used formed made bytes others refutes carries refuted carried none Carried reached = λ text wanted known other. (
    carries text wanted (bytes text known) (others wanted other) reached.0,
    λ fresh. record {
      outputs = reached.1.outputs;
      named = rw (bytes text known, others wanted other) at (names_piece formed made fresh Carried (rw reached.0 at run) (rw reached.0 at used) reached.1.outputs reached.1.named);
      receipt_named = gives_receipt contents place (choices_of call) (carries_of text wanted) receipt _ _ (carried text wanted known other fresh reached.0) reached.1.receipt_named;
    },
  )
