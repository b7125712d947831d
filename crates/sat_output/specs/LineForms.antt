-- Lines in the form in which they are written.
--     lines_in form last xs      their bytes; in text a deletion has the id of the last addition in front, and `last` before any
use Rattle.std.specs.Prelude.{ℕ, List}
use Rattle.lrat_rules.specs.Lines.{Line}
use Rattle.sat_output.specs.LratBytes.{lines_bytes}
use Rattle.sat_output.specs.LratTexts.{lines_text}
use Rattle.sat_output.specs.declared.form.LineForm.{LineForm}
use Rattle.sat_output.specs.declared.form.LineForm.TheVariants.{Text, Binary}

abbrev pub lines_in : LineForm → ℕ → List Line → List ℕ
lines_in Text last xs = lines_text last xs
lines_in Binary last xs = lines_bytes xs
