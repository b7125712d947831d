-- Lines of a piece of a proof that are accepted and written, without their steps, and what a verdict on the piece relies on.
use Rattle.std.proofs.Common.{◌≡◌, ℕ, List, [], ◌∷◌, ◌++◌, length, Option, None, Result, Ok, Err, false, refl, sym, ap, ◌∙◌, subst, inl}
use Rattle.std.specs.Prelude.{IfErr, IfOk}
use Rattle.std.specs.Option.{option_map}
use Rattle.std.specs.Io.KnownBytes.{Appends, Keeps}
use Rattle.std.proofs.KnownBytes.{Appends-kept, Appends-trans}
use Rattle.sat_formula.specs.Lies.{IsLie}
use Rattle.whole_writes.specs.Beginnings.{AppendsBeginning}
use Rattle.sat_rules.specs.Named.{NamedBy}
use Rattle.lrat_rules.specs.Lines.{Hint, Line, adds}
use Rattle.lrat_rules.specs.Stores.{find, formula_store}
use Rattle.lrat_checker.specs.Standing.{IsReady}
use Rattle.lrat_checker.specs.declared.checker.LratChecker.{LratChecker}
use Rattle.sat_formula.specs.Readings.{Known}
use Rattle.sat_formula.specs.declared.counts.LyingHeader.{LyingHeader}
use Rattle.sat_formula.specs.Lines as dimacs
use Rattle.sat_formula.specs.Outcome.{Ended}
use Rattle.sat_formula.specs.Whole.{IsOutcome}
use Rattle.sat_output.specs.DratTexts.{steps_text}
use Rattle.sat_output.specs.LineForms.{lines_in}
use Rattle.sat_output.specs.declared.form.LineForm.{LineForm}
use Rattle.sat_output.specs.declared.form.LineForm.TheVariants.{Text, Binary}
use Rattle.sat_output.proofs.Beginnings.{begins_nothing, begins_past}
use Rattle.verdicts.specs.declared.piece.PieceVerdict.{PieceVerdict}
use Rattle.verdicts.specs.Texts.{IsPieceShown, OfFormula, OfFormulas}
use Rattle.verdicts.proofs.Reading.{of_formulas}
use Rattle.drat_check.specs.declared.fault.RunFault.TheVariants.{Formula}
use Rattle.drat_check.specs.declared.piece_fault.PieceFault.{PieceFault}
use Rattle.drat_check.specs.declared.piece_fault.PieceFault.TheVariants.{Run, Wanted, Lost}
use Rattle.drat_check.specs.Outputs.{BeganLines, HasWritten}
use Rattle.drat_check.specs.PieceCores.{WritesCore, WritesPieceCore}
use Rattle.drat_check.specs.Pieces.{IsAfterFormulas, IsPieceRun, IsReadPieceRun, TellsPieceLies, WritesPiece, WritesRead, WritesShown, WrotePiece}
use Rattle.drat_check.proofs.WrittenLines.{last_of, lines_in-more}

-- ---- lines without steps

-- what is left of the writer of steps says nothing where there was none
pub without_steps : {form : LineForm} {formula : List (List ℕ)} {lrat lrat' trim' : Known} {checker : LratChecker} →
    HasWritten form formula lrat lrat' None trim' checker → HasWritten form formula lrat lrat' None None checker
without_steps p = search

pub began_without_steps : {form : LineForm} {formula : List (List ℕ)} {lrat lrat' trim' : Known} →
    BeganLines form formula lrat lrat' None trim' → BeganLines form formula lrat lrat' None None
began_without_steps {form} {formula} p = search (begins_nothing None (steps_text false (formula_store formula) p.lines))

module _ {form : LineForm} {formula : List (List ℕ)} {lrat lrat' : Known} {checker : LratChecker} (id last : ℕ) (c : List ℕ) (hints : List Hint)
    (p : HasWritten form formula lrat lrat' None None checker) where
  abbrev added : Line
  added = adds id c hints

  -- an addition is written alike after any lines
  with_addition : lines_in form (length formula) p.lines ++ lines_in form last (added ∷ []) ≡ lines_in form (length formula) (p.lines ++ added ∷ [])
  with_addition = ap (λ (l : List ℕ). lines_in form (length formula) p.lines ++ l) (alike form) ∙ sym (lines_in-more form (length formula) p.lines added)
    where
      alike : (f : LineForm) → lines_in f last (added ∷ []) ≡ lines_in f (last_of (length formula) p.lines) (added ∷ [])
      alike Text = refl
      alike Binary = refl

  pub one_added : {lrat'' : Known} {next : LratChecker} → IsReady formula (p.lines ++ added ∷ []) next → Appends lrat' lrat'' (lines_in form last (added ∷ [])) → HasWritten form formula lrat lrat'' None None next
  one_added {lrat''} ready line = search (subst (Appends lrat lrat'') with_addition
      (Appends-trans lrat lrat' lrat'' (lines_in form (length formula) p.lines) (lines_in form last (added ∷ [])) p.text line))

  pub began_addition : {lrat'' : Known} {next : LratChecker} → IsReady formula (p.lines ++ added ∷ []) next → AppendsBeginning lrat' lrat'' (lines_in form last (added ∷ [])) →
      BeganLines form formula lrat lrat'' None None
  began_addition {lrat''} ready line = search (
    ready.accepted,
    subst (AppendsBeginning lrat lrat'') with_addition
        (begins_past lrat lrat' lrat'' (lines_in form (length formula) p.lines) (lines_in form last (added ∷ [])) p.text line),
    begins_nothing None (steps_text false (formula_store formula) (p.lines ++ added ∷ [])),
  )

-- ---- verdicts

-- the ids name the target clauses in what the checker holds
pub wrote_piece : {form : LineForm} {formula wanted : List (List ℕ)} {lrat lrat' lrat'' : Known} {checker : LratChecker} (p : HasWritten form formula lrat lrat' None None checker)
    (ids : List ℕ) → NamedBy (find p.ready.accepted.store) ids wanted → Keeps lrat' lrat'' → WrotePiece form formula wanted lrat lrat''
wrote_piece {form} {formula} {lrat = lrat} {lrat'} {lrat''} p ids named kept = record {
  lines = p.lines;
  store = p.ready.accepted.store;
  ids = ids;
  accepted = p.ready.accepted.ran;
  named = named;
  text = Appends-kept lrat lrat' lrat'' (lines_in form (length formula) p.lines) p.text kept;
}

-- a run that ends with this verdict, which is true, or a fault
pub shown_by : (formula wanted : List (List ℕ)) (r : Result PieceVerdict PieceFault) (verdict : PieceVerdict) → IfOk r (λ x. x ≡ verdict) → IfErr r IsAfterFormulas →
    IsPieceShown formula wanted verdict → IsReadPieceRun formula wanted r
shown_by formula wanted (Ok x) verdict same after p = subst (IsPieceShown formula wanted) (sym same) p
shown_by formula wanted (Err fault) verdict same after p = after

pub ended : (form : LineForm) (formula wanted : List (List ℕ)) (lrat lrat' : Known) (r : Result PieceVerdict PieceFault) (verdict : PieceVerdict) →
    IfOk r (λ x. x ≡ verdict) → WritesShown form formula wanted lrat lrat' verdict → BeganLines form formula lrat lrat' None None → WritesRead form formula wanted lrat lrat' r
ended form formula wanted lrat lrat' (Ok x) verdict same p began = subst (WritesShown form formula wanted lrat lrat') (sym same) p
ended form formula wanted lrat lrat' (Err fault) verdict same p began = began

-- ---- runs after the texts of two formulas

module _ (cnf holds : Known) (formula wanted : List (List ℕ)) (whole : IsOutcome (option_map dimacs.outcome_of cnf) (formula, Ended))
    (wanted_whole : IsOutcome (option_map dimacs.outcome_of holds) (wanted, Ended)) where
  both : (P : List (List ℕ) → List (List ℕ) → Type 0) → P formula wanted → OfFormulas cnf holds P
  both = of_formulas cnf holds formula wanted whole wanted_whole

  first : OfFormula cnf (λ formula. Unit {0})
  first = record { formula = formula; whole = whole; holds = tt }

  pub read_run : (r : Result PieceVerdict PieceFault) → IsReadPieceRun formula wanted r → IsPieceRun cnf holds r
  read_run (Ok verdict) p = both (λ formula wanted. IsPieceShown formula wanted verdict) p
  read_run (Err (Run (Formula fault))) p = absurd p
  read_run (Err (Run fault)) p = first
  read_run (Err (Wanted fault)) p = absurd p
  read_run (Err Lost) p = both (λ formula wanted. Unit {0}) tt

  pub read_lines : (form : LineForm) (lrat lrat' : Known) (r : Result PieceVerdict PieceFault) → IsReadPieceRun formula wanted r →
      WritesRead form formula wanted lrat lrat' r → WritesPiece form cnf holds lrat lrat' r
  read_lines form lrat lrat' (Err (Run (Formula fault))) read p = absurd read
  read_lines form lrat lrat' (Err (Wanted fault)) read p = absurd read
  read_lines form lrat lrat' r read p = both (λ formula wanted. WritesRead form formula wanted lrat lrat' r) p

  pub read_core : (core core' : Known) (r : Result PieceVerdict PieceFault) → WritesCore formula wanted core core' r → WritesPieceCore cnf holds core core' r
  read_core core core' r p = inl (both (λ formula wanted. WritesCore formula wanted core core' r) p)

-- what is reported of both headers, once both formulas were read
pub read_lies : (cnf holds : Known) (formula wanted : List (List ℕ)) (before lie other : Option LyingHeader) (r : Result PieceVerdict PieceFault) →
    IsLie cnf lie → IsLie holds other → IsReadPieceRun formula wanted r → TellsPieceLies cnf holds before r lie other
read_lies cnf holds formula wanted before lie other (Err (Run (Formula fault))) p q read = absurd read
read_lies cnf holds formula wanted before lie other (Err (Wanted fault)) p q read = absurd read
read_lies cnf holds formula wanted before lie other r p q read = (p, q)
