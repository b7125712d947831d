-- Texts of formulas: which are refuted, and which carry to which.
use Rattle.std.specs.Prelude.{codes}
use Rattle.sat_formula.specs.Refuted.{IsRefuted}
use Rattle.verdicts.specs.Texts.{CarriesText}

-- one fact a row
pub record FormulaRows : Type 0 where
  pub refuted : IsRefuted (codes "p cnf 1 2\n1 0\n-1 0\n")
  pub satisfiable : IsRefuted (codes "1 0\n2 0\n") → ⊥
  -- a text with a fault is no formula, also where the clauses before it can't all be true
  pub no_number : IsRefuted (codes "1 0\n-1 0\nx\n") → ⊥
  pub unterminated : IsRefuted (codes "1 0\n-1 0\n2\n") → ⊥
  -- what follows the end mark is no clause, nor is a comment
  pub after_end_mark : IsRefuted (codes "1 0\n%\n-1 0\n") → ⊥
  pub comment : IsRefuted (codes "1 0\nc -1 0\n") → ⊥
  pub carried : CarriesText (codes "1 0\n") (codes "1 2 0\n")
  pub not_carried : CarriesText (codes "1 0\n") (codes "2 0\n-2 0\n") → ⊥
  pub fault_before : CarriesText (codes "0\nx\n") (codes "") → ⊥
  pub fault_behind : CarriesText (codes "") (codes "1 0\nx\n") → ⊥
