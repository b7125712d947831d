-- What the verdict on a call's files means.
--     Means files input call holds Kept Unnamed verdict      of a piece, if a file has its target clauses, or of a whole proof
--     piece_of r      the result of a run over a whole proof, as one over a piece
use Rattle.std.specs.Prelude.{◌≡◌, ℕ, List, [], ◌∷◌, Option, None, Some, Result, Ok, Err, codes, false}
use Rattle.command.specs.Calls.{choices_of, is_given, operands_of}
use Rattle.command.specs.Inputs.{bytes_named}
use Rattle.command.specs.declared.call.Call.{Call}
use Rattle.lrat_check.specs.declared.fault.RunFault.{RunFault}
use Rattle.lrat_check.specs.declared.piece_fault.PieceFault.{PieceFault}
use Rattle.lrat_check.specs.declared.piece_fault.PieceFault.TheVariants.{Run}
use Rattle.receipt_files.specs.Named.{carries_of, refuted_of}
use Rattle.receipts.specs.declared.receipt.Receipt.{Receipt}
use Rattle.sat_formula.specs.Refuted.{IsRefuted}
use Rattle.verdicts.specs.Texts.{CarriesText}
use Rattle.verdicts.specs.declared.piece.PieceVerdict.{PieceVerdict}
use Rattle.verdicts.specs.declared.piece.PieceVerdict.TheVariants.{Carried, NotCarried, Refuted}
use Rattle.verdicts.specs.declared.shown.Unshown.{Unshown}
use Rattle.verdicts.specs.declared.shown.Unshown.TheVariants.{Fault}
use Rattle.verdicts.specs.declared.verdict.Verdict.{Verdict}
use Rattle.verdicts.specs.declared.verdict.Verdict.TheVariants.{NotVerified, Verified}

-- a formula that is refuted can't be satisfied, and its clauses carry to the target clauses that a piece derives, where the bytes of their files are known;
-- the receipt that says it is kept. A verdict that shows nothing gives no file a name
abbrev pub Means : (List ℕ → Option (List ℕ)) → Option (List ℕ) → Call → Option (List ℕ)
    → (Receipt → Type 0) → Type 0 → PieceVerdict → Type 0
Means files input call holds Kept Unnamed Refuted = (cnf proof text : List ℕ)
    → operands_of call ≡ cnf ∷ proof ∷ []
    → is_given (choices_of call) (codes "--example") ≡ false
    → bytes_named files input cnf ≡ Some text
    → IsRefuted text × Kept (refuted_of text)
Means files input call (Some holds) Kept Unnamed Carried = (cnf proof text wanted : List ℕ)
    → operands_of call ≡ cnf ∷ proof ∷ []
    → is_given (choices_of call) (codes "--example") ≡ false
    → bytes_named files input cnf ≡ Some text
    → files holds ≡ Some wanted
    → CarriesText text wanted × Kept (carries_of text wanted)
Means files input call None Kept Unnamed Carried = ⊥
Means files input call holds Kept Unnamed NotCarried = Unnamed

-- a whole proof is a piece whose only target clause is the empty one
abbrev pub piece_of : Result Verdict RunFault → Result PieceVerdict (Unshown PieceFault)
piece_of (Ok Verified) = Ok Refuted
piece_of (Ok NotVerified) = Ok NotCarried
piece_of (Err fault) = Err (Fault (Run fault))
