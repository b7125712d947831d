-- Checks of DRAT, DPR, FRAT and LPR proofs: their formats, and what is put beside a verdict.
--     format_of number      the format of this number, if it is one
--     PlacesLrat formula old new placed      lines that refute the formula were put as LRAT text
--     PlacesCore formula old new placed      some of its clauses were put as a formula
use Rattle.std.specs.Prelude.{◌≡◌, ℕ, ◌==◌, true, List, length, Option, Some, None, if◌then◌else◌}
use Rattle.lrat_rules.specs.Lines.{Line, is_refuted}
use Rattle.sat_output.specs.FormulaTexts.{formula_text}
use Rattle.sat_output.specs.LratTexts.{lines_text}
use Rattle.drat_check.specs.Outputs.{IsPartOf}
use Rattle.drat_check.specs.declared.reader.ProofFormat.{ProofFormat}
use Rattle.drat_check.specs.declared.reader.ProofFormat.TheVariants.{Told, Drat, Frat, Lpr}
use Rattle.c_library.specs.Rooms.{IsPlaced}
use Rattle.c_library.specs.declared.room.Placed.{Placed}

abbrev pub format_of : ℕ → Option ProofFormat
format_of number =
    if number == 0 then Some Told
    else if number == 1 then Some Drat
    else if number == 2 then Some Frat
    else if number == 3 then Some Lpr
    else None

-- the checker's rules say of these lines that they refute the formula
pub record PlacesLrat (formula : List (List ℕ)) (old new : List ℕ) (placed : Placed) : Type 0 where
  pub lines : List Line
  pub refuted : is_refuted formula lines ≡ true
  pub text : IsPlaced (lines_text (length formula) lines) old new placed

-- these clauses are some of the formula's, in their order
pub record PlacesCore (formula : List (List ℕ)) (old new : List ℕ) (placed : Placed) : Type 0 where
  pub used : List (List ℕ)
  pub is_part : IsPartOf used formula
  pub text : IsPlaced (formula_text used) old new placed
