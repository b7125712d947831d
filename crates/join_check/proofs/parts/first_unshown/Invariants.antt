use Rattle.std.proofs.Common.{◌≡◌, ℕ, List, ◌++◌, length}
use Rattle.std.specs.Prelude.{All}
use Rattle.refutation_rules.specs.Cubes.{units_of}
use Rattle.join_check.specs.Shown.{IsPartShown}
use Rattle.receipts.specs.declared.receipt.Receipt.{Receipt}
use Rattle.join_check.specs.Digests.{HasShown}
use Rattle.join_check.specs.Parts.{ArePartTexts}
use Rattle.join_check.proofs.parts.first_unshown.Given as goal

-- the parts of the cubes before those to come are shown
abbrev pub invariant-loop-cube : goal.invariant-loop-cube
invariant-loop-cube l = record {
  counted : l.left ≡ length l.cube-iterator;
  so_far : (before : List (List ℕ)) × (l.cubes ≡ before ++ l.cube-iterator)
      × ((formula : List (List ℕ)) (receipts : List Receipt) → ArePartTexts formula l.texts → HasShown receipts l.shown → All (λ other. IsPartShown receipts formula (units_of other)) before);
}
