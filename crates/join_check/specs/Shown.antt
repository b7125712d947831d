-- What receipts show of the parts of a formula.
--     part_text formula added      the text of a part
--     IsPartShown receipts formula added      the text of this part is read as the part, and the receipts show its digest
use Rattle.std.specs.Prelude.{ℕ, List, ◌++◌}
use Rattle.sat_output.specs.FormulaTexts.{clauses_text}
use Rattle.receipts.specs.Joins as joins
use Rattle.receipts.specs.declared.receipt.Receipt.{Receipt}

-- the clauses of the formula, and then those of the part, a line for each, without a header: so all parts begin alike
abbrev pub part_text : List (List ℕ) → List (List ℕ) → List ℕ
part_text formula added = clauses_text (formula ++ added)

-- by these texts
abbrev pub IsPartShown : List Receipt → List (List ℕ) → List (List ℕ) → Type 0
IsPartShown receipts formula added = joins.IsPartShown clauses_text receipts formula added
