-- What the verdict of a call says of its files, and what a call without a verdict leaves.
--     NamesEmpty      the outputs that the call asks for are empty
--     ShowsProof cnf verdict      of a whole proof, by the bytes of the formula
--     ShowsPiece cnf holds verdict      of a piece of a proof, by those of the formula and of the target clauses
--     IsOfWhole verdict      one that a whole proof can have
--     Shows verdict      of a call: its example, its proof, or its piece
--     Leaves refusal      a call that was refused named no file, or at most the first of its outputs
use Rattle.std.specs.Prelude.{◌≡◌, ◌⊎◌, ℕ, List, [], ◌∷◌, Option, None, Some, codes, true}
use Rattle.command.specs.Calls.{choices_of, is_given, operands_of, value_given}
use Rattle.command.specs.Inputs.{bytes_named}
use Rattle.command.specs.declared.call.Call.{Call}
use Rattle.drat_check_main.specs.Named.{GivesAll, NamesPiece, NamesProof, NamesSome, ThenReceipt, empty_outputs, trim_name}
use Rattle.receipt_files.specs.Named.{carries_of, refuted_of}
use Rattle.sat_formula.specs.Refuted.{IsRefuted}
use Rattle.verdicts.specs.Texts.{CarriesText, OfFormula}
use Rattle.verdicts.specs.declared.piece.PieceVerdict.{PieceVerdict}
use Rattle.verdicts.specs.declared.piece.PieceVerdict.TheVariants.{Carried, NotCarried, Refuted}
use Rattle.verdicts.specs.declared.status.Refusal.{Refusal}
use Rattle.verdicts.specs.declared.status.Refusal.TheVariants.{Failed, NotRun}

-- a whole proof carries to no target clauses
abbrev pub IsOfWhole : PieceVerdict → Type 0
IsOfWhole Refuted = Unit {0}
IsOfWhole Carried = ⊥
IsOfWhole NotCarried = Unit {0}

-- by what a new file holds, and which files had their names before and have them now
module _ (unwritten : Option (List ℕ)) (place : List ℕ → Option (List ℕ)) (call : Call) (old new : Option (List (List ℕ × List ℕ))) where
  -- nothing is shown, so nothing was written
  abbrev pub NamesEmpty : Type 0
  NamesEmpty = unwritten ≡ Some [] → GivesAll place (choices_of call) (empty_outputs (choices_of call)) old new

  -- the formula is refuted, the outputs show why and have their names, and then the receipt has its own
  abbrev pub ShowsProof : Option (List ℕ) → PieceVerdict → Type 0
  ShowsProof cnf Refuted = (text : List ℕ) → cnf ≡ Some text → IsRefuted text
      × (unwritten ≡ Some [] → ThenReceipt place (choices_of call) (refuted_of text)
      (λ named. OfFormula (Some text) (NamesProof place (choices_of call) old named)) new)
  ShowsProof cnf Carried = ⊥
  ShowsProof cnf NotCarried = NamesEmpty

  -- the same, or the formula carries to the target clauses
  abbrev pub ShowsPiece : Option (List ℕ) → Option (List ℕ) → PieceVerdict → Type 0
  ShowsPiece cnf holds Refuted = (text wanted : List ℕ) → cnf ≡ Some text → holds ≡ Some wanted → IsRefuted text
      × (unwritten ≡ Some [] → ThenReceipt place (choices_of call) (refuted_of text)
      (NamesPiece place (choices_of call) (Some text) (Some wanted) Refuted old) new)
  ShowsPiece cnf holds Carried = (text wanted : List ℕ) → cnf ≡ Some text → holds ≡ Some wanted → CarriesText text wanted
      × (unwritten ≡ Some [] → ThenReceipt place (choices_of call) (carries_of text wanted)
      (NamesPiece place (choices_of call) (Some text) (Some wanted) Carried old) new)
  ShowsPiece cnf holds NotCarried = NamesEmpty

  -- one that can't be run names none; one that failed no receipt
  abbrev pub Leaves : Refusal → Type 0
  Leaves NotRun = new ≡ old
  Leaves Failed = unwritten ≡ Some [] → NamesSome place (choices_of call) old new

  -- the example names no file
  pub record ShowsExample (verdict : PieceVerdict) : Type 0 where
    pub asked : is_given (choices_of call) (codes "--example") ≡ true
    pub whole : IsOfWhole verdict
    pub unnamed : new ≡ old

  -- by the bytes of each file, and those of standard input
  module _ (files : List ℕ → Option (List ℕ)) (input : Option (List ℕ)) where
    -- a proof after a formula
    pub record ShowsFiles (verdict : PieceVerdict) : Type 0 where
      pub cnf : List ℕ
      pub proof : List ℕ
      pub operands : operands_of call ≡ cnf ∷ proof ∷ []
      pub unasked : value_given (choices_of call) (codes "--holds") ≡ None
      pub shown : ShowsProof (bytes_named files input cnf) verdict

    -- a piece between a formula and target clauses, whose steps are not trimmed
    pub record ShowsPieceFiles (verdict : PieceVerdict) : Type 0 where
      pub cnf : List ℕ
      pub piece : List ℕ
      pub holds : List ℕ
      pub operands : operands_of call ≡ cnf ∷ piece ∷ []
      pub asked : value_given (choices_of call) (codes "--holds") ≡ Some holds
      pub untrimmed : trim_name (choices_of call) ≡ None
      pub shown : ShowsPiece (bytes_named files input cnf) (files holds) verdict

    -- what the call asks for
    abbrev pub Shows : PieceVerdict → Type 0
    Shows verdict = ShowsExample verdict ⊎ ShowsFiles verdict ⊎ ShowsPieceFiles verdict
