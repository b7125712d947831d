-- The core of a piece of a proof: clauses of the formula that are written as a formula, and for which alone the verdict holds.
--     WroteShown formula wanted core core' verdict      a part of the formula was written that shows what the verdict says
--     CoreShown, WritesCore, WritesPieceCore      what a run wrote of a core: by its verdict, after two formulas, and after their texts
use Rattle.std.specs.Prelude.{◌≡◌, ◌⊎◌, ℕ, List, Option, Result, Ok, Err}
use Rattle.std.specs.Io.KnownBytes.{Appends}
use Rattle.verdicts.specs.Texts.{IsPieceShown, OfFormulas}
use Rattle.sat_output.specs.FormulaTexts.{formula_text}
use Rattle.verdicts.specs.declared.piece.PieceVerdict.{PieceVerdict}
use Rattle.verdicts.specs.declared.piece.PieceVerdict.TheVariants.{Refuted, Carried, NotCarried}
use Rattle.drat_check.specs.declared.fault.RunFault.TheVariants.{Formula, Proof, Lrat, Trim, Core}
use Rattle.drat_check.specs.declared.piece_fault.PieceFault.{PieceFault}
use Rattle.drat_check.specs.declared.piece_fault.PieceFault.TheVariants.{Run, Wanted, Lost}
use Rattle.drat_check.specs.Outputs.{BeganCore, IsPartOf}
use Rattle.drat_check.specs.Pieces.{IsUnreadPiece}

module _ (formula wanted : List (List ℕ)) (core core' : Option (List ℕ)) where
  -- a part of the formula was written as a formula, and what the verdict says holds for it in place of the formula
  pub record WroteShown (verdict : PieceVerdict) : Type 0 where
    pub used : List (List ℕ)
    pub is_part : IsPartOf used formula
    pub shown : IsPieceShown used wanted verdict
    pub text : Appends core core' (formula_text used)

  -- where it says anything; else nothing is written
  abbrev pub CoreShown : PieceVerdict → Type 0
  CoreShown Refuted = WroteShown Refuted
  CoreShown Carried = WroteShown Carried
  CoreShown NotCarried = core' ≡ core

  -- what a run wrote
  abbrev pub WritesCore : Result PieceVerdict PieceFault → Type 0
  WritesCore (Ok verdict) = CoreShown verdict
  WritesCore (Err (Wanted fault)) = core' ≡ core
  WritesCore (Err Lost) = core' ≡ core
  WritesCore (Err (Run (Formula fault))) = core' ≡ core
  WritesCore (Err (Run (Proof fault))) = core' ≡ core
  WritesCore (Err (Run (Lrat cause))) = core' ≡ core
  WritesCore (Err (Run (Trim cause))) = core' ≡ core
  WritesCore (Err (Run (Core cause))) = BeganCore formula core core'

-- the same after both texts; nothing is written where one is no formula
abbrev pub WritesPieceCore : Option (List ℕ) → Option (List ℕ) → Option (List ℕ) → Option (List ℕ)
    → Result PieceVerdict PieceFault → Type 0
WritesPieceCore cnf holds core core' r =
    OfFormulas cnf holds (λ formula wanted. WritesCore formula wanted core core' r)
    ⊎ (IsUnreadPiece r × (core' ≡ core))
