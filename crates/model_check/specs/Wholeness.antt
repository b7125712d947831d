-- Formulas that are not whole. To a formula that is to be satisfied each clause counts, so one of which a part is missing has no
-- verdict.
--     cut_of header count      what is missing of a formula of this many clauses with this header
use Rattle.std.specs.Prelude.{ℕ, ◌==◌, nat_lt, Option, Some, None, if◌then◌else◌}
use Rattle.sat_formula.specs.declared.counts.Counts.{Counts}
use Rattle.model_check.specs.declared.whole.CutFormula.{CutFormula}
use Rattle.model_check.specs.declared.whole.CutFormula.TheVariants.{FewClauses, NoClause}

-- clauses that the header says, or without a header all of them
abbrev pub cut_of : Option Counts → ℕ → Option CutFormula
cut_of None count = if count == 0 then Some NoClause else None
cut_of (Some said) count =
    if nat_lt count said.clauses then Some (FewClauses said.clauses count) else None
