-- A part of a formula that is written.
use Rattle.std.proofs.Common.{ℕ, List, [], Option, Result, refl}
use Rattle.std.specs.Io.KnownBytes.{Appends, Keeps}
use Rattle.std.proofs.KnownBytes.{Appends-kept}
use Rattle.std.specs.Prelude.{OnErr}
use Rattle.whole_writes.specs.Beginnings.{AppendsBeginning}
use Rattle.sat_output.specs.FormulaTexts.{formula_text}
use Rattle.sat_output.proofs.Beginnings.{begins_nothing, begins_whole}
use Rattle.drat_check.specs.Outputs.{BeganCore}
use Rattle.drat_check.proofs.WrittenLines.{on_err}

-- nothing is written yet
pub core_none : (formula : List (List ℕ)) (old : Option (List ℕ)) → BeganCore formula old old
core_none formula old = record { used = []; is_part = ([], refl); text = begins_nothing old (formula_text []) }

-- all is written, and what is held back may not be
pub flushed : {A E : Type 0} (r : Result A E) (old now new : Option (List ℕ)) (text : List ℕ) → Appends old now text → Keeps now new → OnErr r (AppendsBeginning old new text)
flushed r old now new text written kept = on_err (AppendsBeginning old new text) r (begins_whole old new text (Appends-kept old now new text written kept))
