-- Runs over one piece of a proof, after a formula and the target clauses of the piece.
--     IsAfterFormulas fault      one that comes once both formulas were read
--     IsReadPieceRun, IsPieceRun      the run after two formulas, and after their texts
--     IsUnreadPiece r      a formula was not read whole
--     GoesOn      a call writes more lines that a checker has accepted
--     WrotePiece      lines were written after which the target clauses are stored
--     WritesShown, WritesRead, WritesPiece      the lines that a run wrote: by its verdict, after two formulas, and after their texts
--     TellsPieceLies      what is reported of both headers
use Rattle.std.specs.Prelude.{◌≡◌, ℕ, List, length, Option, Some, None, Result, Ok, Err}
use Rattle.std.specs.Option.{option_map}
use Rattle.std.specs.Io.KnownBytes.{Appends}
use Rattle.sat_rules.specs.Named.{Item, NamedBy}
use Rattle.lrat_rules.specs.Lines.{Line, run}
use Rattle.lrat_rules.specs.Stores.{find, formula_store}
use Rattle.lrat_checker.specs.declared.checker.LratChecker.{LratChecker}
use Rattle.verdicts.specs.Texts.{IsPieceShown, OfFormula, OfFormulas}
use Rattle.sat_formula.specs.declared.counts.LyingHeader.{LyingHeader}
use Rattle.sat_formula.specs.Lines as dimacs
use Rattle.sat_formula.specs.Whole.{FailsAfter}
use Rattle.sat_output.specs.LineForms.{lines_in}
use Rattle.sat_output.specs.declared.form.LineForm.{LineForm}
use Rattle.sat_formula.specs.Lies.{IsLie}
use Rattle.verdicts.specs.declared.piece.PieceVerdict.{PieceVerdict}
use Rattle.verdicts.specs.declared.piece.PieceVerdict.TheVariants.{Refuted, Carried, NotCarried}
use Rattle.drat_check.specs.declared.fault.RunFault.TheVariants.{Formula, Proof, Lrat, Trim, Core}
use Rattle.drat_check.specs.declared.piece_fault.PieceFault.{PieceFault}
use Rattle.drat_check.specs.declared.piece_fault.PieceFault.TheVariants.{Run, Wanted, Lost}
use Rattle.drat_check.specs.Outputs.{BeganLines, HasWritten, WroteProof}
use Rattle.drat_check.specs.Runs.{IsAfterFormula, IsCheckRun}

-- one of the piece, of an output or of the elaborator
abbrev pub IsAfterFormulas : PieceFault → Type 0
IsAfterFormulas (Run fault) = IsAfterFormula fault
IsAfterFormulas (Wanted fault) = ⊥
IsAfterFormulas Lost = Unit {0}

-- the verdict is true; the formulas were there
abbrev pub IsReadPieceRun : List (List ℕ) → List (List ℕ) → Result PieceVerdict PieceFault → Type 0
IsReadPieceRun formula wanted (Ok verdict) = IsPieceShown formula wanted verdict
IsReadPieceRun formula wanted (Err fault) = IsAfterFormulas fault

-- the run over all texts: a formula that was not read whole is answered, the first one first
abbrev pub IsPieceRun : Option (List ℕ) → Option (List ℕ) → Result PieceVerdict PieceFault → Type 0
IsPieceRun cnf holds (Ok verdict) = OfFormulas cnf holds (λ formula wanted. IsPieceShown formula wanted verdict)
IsPieceRun cnf holds (Err (Run fault)) = IsCheckRun cnf (Err fault)
IsPieceRun cnf holds (Err (Wanted fault)) = OfFormula cnf (λ formula. (clauses : List (List ℕ))
    × FailsAfter (option_map dimacs.outcome_of holds) clauses fault)
IsPieceRun cnf holds (Err Lost) = OfFormulas cnf holds (λ formula wanted. Unit {0})

-- the formula or the target clauses were not read whole
abbrev pub IsUnreadPiece : Result PieceVerdict PieceFault → Type 0
IsUnreadPiece (Ok verdict) = ⊥
IsUnreadPiece (Err (Run (Formula fault))) = Unit {0}
IsUnreadPiece (Err (Run (Proof fault))) = ⊥
IsUnreadPiece (Err (Run (Lrat cause))) = ⊥
IsUnreadPiece (Err (Run (Trim cause))) = ⊥
IsUnreadPiece (Err (Run (Core cause))) = ⊥
IsUnreadPiece (Err (Wanted fault)) = Unit {0}
IsUnreadPiece (Err Lost) = ⊥

-- ---- the lines that are written

-- where lines that a checker has accepted are written before a call, they are after it, with those that it added; after a fault a beginning of accepted lines is
abbrev pub GoesOn : {A : Type 0} → LineForm → Option (List ℕ) → Option (List ℕ) →
    LratChecker → LratChecker → Result A PieceFault → Type 0
GoesOn form lrat lrat' checker next (Ok x) = (formula : List (List ℕ)) (before : Option (List ℕ))
    → HasWritten form formula before lrat None None checker
    → HasWritten form formula before lrat' None None next
GoesOn form lrat lrat' checker next (Err fault) = (formula : List (List ℕ)) (before : Option (List ℕ))
    → HasWritten form formula before lrat None None checker
    → BeganLines form formula before lrat' None None

-- lines that the checker's rules accept were written, and after them each target clause is stored under an id
pub record WrotePiece (form : LineForm) (formula wanted : List (List ℕ)) (lrat lrat' : Option (List ℕ)) : Type 0 where
  pub lines : List Line
  pub store : List Item
  pub ids : List ℕ
  pub accepted : run (formula_store formula) lines ≡ Some store
  pub named : NamedBy (find store) ids wanted
  pub text : Appends lrat lrat' (lines_in form (length formula) lines)

module _ (form : LineForm) (formula wanted : List (List ℕ)) (lrat lrat' : Option (List ℕ)) where
  -- what the verdict relies on was written, if it says anything
  abbrev pub WritesShown : PieceVerdict → Type 0
  WritesShown Refuted = WroteProof form formula lrat lrat' None None
  WritesShown Carried = WrotePiece form formula wanted lrat lrat'
  WritesShown NotCarried = lrat' ≡ lrat

  -- by what the run returned
  abbrev pub WritesRead : Result PieceVerdict PieceFault → Type 0
  WritesRead (Ok verdict) = WritesShown verdict
  WritesRead (Err fault) = BeganLines form formula lrat lrat' None None

-- the same after both texts; nothing is written where one is no formula
abbrev pub WritesPiece : LineForm → Option (List ℕ) → Option (List ℕ) → Option (List ℕ) → Option (List ℕ)
    → Result PieceVerdict PieceFault → Type 0
WritesPiece form cnf holds lrat lrat' (Ok verdict) = OfFormulas cnf holds (λ formula wanted.
    WritesShown form formula wanted lrat lrat' verdict)
WritesPiece form cnf holds lrat lrat' (Err (Wanted fault)) = lrat' ≡ lrat
WritesPiece form cnf holds lrat lrat' (Err Lost) = OfFormulas cnf holds (λ formula wanted.
    BeganLines form formula lrat lrat' None None)
WritesPiece form cnf holds lrat lrat' (Err (Run (Formula fault))) = lrat' ≡ lrat
WritesPiece form cnf holds lrat lrat' (Err (Run (Proof fault))) = OfFormulas cnf holds
    (λ formula wanted. BeganLines form formula lrat lrat' None None)
WritesPiece form cnf holds lrat lrat' (Err (Run (Lrat cause))) = OfFormulas cnf holds
    (λ formula wanted. BeganLines form formula lrat lrat' None None)
WritesPiece form cnf holds lrat lrat' (Err (Run (Trim cause))) = OfFormulas cnf holds
    (λ formula wanted. BeganLines form formula lrat lrat' None None)
WritesPiece form cnf holds lrat lrat' (Err (Run (Core cause))) = OfFormulas cnf holds
    (λ formula wanted. BeganLines form formula lrat lrat' None None)

-- ---- headers

-- the mismatches of both headers, of each if the formula was read whole; else nothing. If the first one is not, what was reported before of the other stays
abbrev pub TellsPieceLies : Option (List ℕ) → Option (List ℕ) → Option LyingHeader
    → Result PieceVerdict PieceFault → Option LyingHeader → Option LyingHeader → Type 0
TellsPieceLies cnf holds before (Ok verdict) lie other = IsLie cnf lie × IsLie holds other
TellsPieceLies cnf holds before (Err (Wanted fault)) lie other = IsLie cnf lie × (other ≡ None)
TellsPieceLies cnf holds before (Err Lost) lie other = IsLie cnf lie × IsLie holds other
TellsPieceLies cnf holds before (Err (Run (Formula fault))) lie other = (lie ≡ None) × (other ≡ before)
TellsPieceLies cnf holds before (Err (Run (Proof fault))) lie other = IsLie cnf lie × IsLie holds other
TellsPieceLies cnf holds before (Err (Run (Lrat cause))) lie other = IsLie cnf lie × IsLie holds other
TellsPieceLies cnf holds before (Err (Run (Trim cause))) lie other = IsLie cnf lie × IsLie holds other
TellsPieceLies cnf holds before (Err (Run (Core cause))) lie other = IsLie cnf lie × IsLie holds other
