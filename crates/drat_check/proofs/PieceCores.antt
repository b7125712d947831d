-- Cores of pieces: what a part of a formula shows, the formula shows; and what is written of a part.
use Rattle.std.proofs.Common.{◌≡◌, ◌≢◌, ℕ, Bool, true, false, List, [], ◌∷◌, None, Result, Ok, Err, refl, sym, ap, ◌∙◌, subst}
use Rattle.std.specs.Io.KnownBytes.{Appends}
use Rattle.std.proofs.lemmas.Bool.{and_from, and_parts, false_from_ne_true, true≢false}
use Rattle.sat_formula.specs.Readings.{Known}
use Rattle.sat_rules.specs.Clauses.{all_true, clause_true}
use Rattle.sat_output.specs.FormulaTexts.{formula_text}
use Rattle.whole_writes.specs.Beginnings.{AppendsBeginning}
use Rattle.verdicts.specs.declared.piece.PieceVerdict.{PieceVerdict}
use Rattle.verdicts.specs.declared.piece.PieceVerdict.TheVariants.{Refuted, Carried, NotCarried}
use Rattle.verdicts.specs.Texts.{IsPieceShown}
use Rattle.drat_check.specs.declared.fault.RunFault.TheVariants.{Core}
use Rattle.drat_check.specs.declared.piece_fault.PieceFault.{PieceFault}
use Rattle.drat_check.specs.declared.piece_fault.PieceFault.TheVariants.{Run}
use Rattle.drat_check.specs.Outputs.{BeganCore, IsPartOf, flagged}
use Rattle.drat_check.specs.PieceCores.{CoreShown, WritesCore}
use Rattle.drat_check.specs.Pieces.{IsReadPieceRun}
use Rattle.drat_check.proofs.WrittenCores.{core_none}

-- ---- parts

part_true : (a : ℕ → Bool) (flags : List Bool) (cs : List (List ℕ)) → all_true a cs ≡ true → all_true a (flagged flags cs) ≡ true
part_true a [] cs t = refl
part_true a (b ∷ flags) [] t = refl
part_true a (true ∷ flags) (c ∷ cs) t =
    let parts = and_parts (clause_true a c) (all_true a cs) t in
    and_from (clause_true a c) (all_true a (flagged flags cs)) parts.0 (part_true a flags cs parts.1)
part_true a (false ∷ flags) (c ∷ cs) t = part_true a flags cs (and_parts (clause_true a c) (all_true a cs) t).1

-- an assignment that satisfies a formula satisfies a part of it
satisfies_part : (formula used : List (List ℕ)) → IsPartOf used formula → (a : ℕ → Bool) → all_true a formula ≡ true → all_true a used ≡ true
satisfies_part formula used part a t = subst (λ (cs : List (List ℕ)). all_true a cs ≡ true) (sym part.1) (part_true a part.0 formula t)

-- what a part shows of it, the formula shows
pub shown_whole : (formula used wanted : List (List ℕ)) → IsPartOf used formula → (verdict : PieceVerdict) → IsPieceShown used wanted verdict → IsPieceShown formula wanted verdict
shown_whole formula used wanted part Refuted p = λ a. false_from_ne_true (all_true a formula) (λ t. true≢false (sym (satisfies_part formula used part a t) ∙ p a))
shown_whole formula used wanted part Carried p = λ a t. p a (satisfies_part formula used part a t)
shown_whole formula used wanted part NotCarried p = tt

-- each clause is taken
abbrev every_flag : List (List ℕ) → List Bool
every_flag [] = []
every_flag (c ∷ cs) = true ∷ every_flag cs

every_clause : (cs : List (List ℕ)) → cs ≡ flagged (every_flag cs) cs
every_clause [] = refl
every_clause (c ∷ cs) = ap (λ (ds : List (List ℕ)). c ∷ ds) (every_clause cs)

-- ---- what is written of a part

module _ (formula wanted : List (List ℕ)) (core core' : Known) where
  pub core_written : (used : List (List ℕ)) → IsPartOf used formula → Appends core core' (formula_text used) → (verdict : PieceVerdict) → verdict ≢ NotCarried →
      IsPieceShown used wanted verdict → CoreShown formula wanted core core' verdict
  core_written used part text NotCarried decided p = absurd (decided refl)
  core_written used part text verdict decided p = record { used = used; is_part = part; shown = p; text = text }

  pub core_began : (used : List (List ℕ)) → IsPartOf used formula → AppendsBeginning core core' (formula_text used) → BeganCore formula core core'
  core_began used part text = record { used = used; is_part = part; text = text }

module _ (formula wanted : List (List ℕ)) where
  -- nothing was written before this fault
  pub core_unwritten : (core : Known) (fault : PieceFault) → WritesCore formula wanted core core (Err fault)
  core_unwritten core (Run (Core cause)) = core_none formula core
  core_unwritten core fault = refl

  -- without a writer the formula serves
  pub no_core : (r : Result PieceVerdict PieceFault) → IsReadPieceRun formula wanted r → WritesCore formula wanted None None r
  no_core (Err fault) p = core_unwritten None fault
  no_core (Ok NotCarried) p = refl
  no_core (Ok verdict) p = record { used = formula; is_part = (every_flag formula, every_clause formula); shown = p; text = tt }
