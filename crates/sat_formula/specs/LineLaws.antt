-- Laws of DIMACS text.
use Rattle.std.specs.Prelude.{◌≡◌, ℕ, List, [], ◌∷◌, Some, None, codes}
use Rattle.sat_formula.specs.declared.fault.DimacsKind.TheVariants.{BadNumber, VarTooLarge, BadHeader, LateHeader, UnterminatedClause}
use Rattle.sat_formula.specs.Lines.{outcome_of}
use Rattle.sat_formula.specs.Notes.{clause_lines, header_of}
use Rattle.sat_formula.specs.Outcome.{Ended, Faulty}
use Rattle.sat_formula.specs.Text.{outcome_at, start}

-- read byte after byte a text says what its lines say
abbrev pub BytesAreLines : Type 0
BytesAreLines = (text : List ℕ) → outcome_at start text ≡ outcome_of text

-- what some texts say: clauses by the codes of their literals (1 is 0, -2 is 3), and the end or the fault
pub record WorkedTexts : Type 0 where
  pub empty : outcome_of [] ≡ ([], Ended)
  pub two_clauses : outcome_of (codes "p cnf 9 9\n1 -2 0\n2 0\n") ≡
      ((0 ∷ 3 ∷ []) ∷ (2 ∷ []) ∷ [], Ended)
  pub unterminated : outcome_of (codes "1 2") ≡ ([], Faulty 1 UnterminatedClause)
  pub bad_number : outcome_of (codes "1 0\n2 x 0") ≡ ((0 ∷ []) ∷ [], Faulty 2 BadNumber)
  pub end_mark : outcome_of (codes "1 0\n%\n0\n") ≡ ((0 ∷ []) ∷ [], Ended)
  pub largest_variable : outcome_of (codes "268435456 0") ≡ ((536870910 ∷ []) ∷ [], Ended)
  pub variable_too_large : outcome_of (codes "268435457 0") ≡ ([], Faulty 1 VarTooLarge)
  pub second_header : outcome_of (codes "p cnf 1 1\np cnf 1 1\n") ≡ ([], Faulty 2 LateHeader)
  pub header_after_clause : outcome_of (codes "1 0\np cnf 1 1\n") ≡
      ((0 ∷ []) ∷ [], Faulty 2 LateHeader)
  pub short_header : outcome_of (codes "p cnf 1\n") ≡ ([], Faulty 1 BadHeader)
  pub leading_zeros : outcome_of (codes "c x\n-007 0") ≡ ((13 ∷ []) ∷ [], Ended)
  pub minus_zero : outcome_of (codes "-0") ≡ ([], Faulty 1 BadNumber)
  pub clause_over_lines : outcome_of (codes "1\nc x\n2 0\n") ≡ ((0 ∷ 2 ∷ []) ∷ [], Ended)
  pub unterminated_at_mark : outcome_of (codes "1\n%") ≡ ([], Faulty 2 UnterminatedClause)
  pub comment_after_clause : outcome_of (codes "1 0 c") ≡ ((0 ∷ []) ∷ [], Faulty 1 BadNumber)
  pub header_without_lf : outcome_of (codes " p\tcnf 01 1 ") ≡ ([], Ended)
  pub header_after_empty_clause : outcome_of (codes "0\np cnf 1 1") ≡ ([] ∷ [], Faulty 2 LateHeader)

-- the lines on which the clauses of some texts end, and the counts of their headers
pub record WorkedNotes : Type 0 where
  pub lines : clause_lines (codes "p cnf 9 9\n1 -2 0\n2 0\n") ≡ 2 ∷ 3 ∷ []
  pub no_lines : clause_lines [] ≡ []
  pub two_on_a_line : clause_lines (codes "1 0 2 0\n3 0") ≡ 1 ∷ 1 ∷ 2 ∷ []
  pub over_lines : clause_lines (codes "1\nc 0\n\n2\n0\n") ≡ 5 ∷ []
  pub comments : clause_lines (codes "c 0\n  c 0\n1 0\nc\n \t2 00\r\n") ≡ 3 ∷ 5 ∷ []
  pub empty_clauses : clause_lines (codes "0 0\n0") ≡ 1 ∷ 1 ∷ 2 ∷ []
  pub after_the_end_mark : clause_lines (codes "1 0\n%\n2 0\n") ≡ 1 ∷ []
  pub header : header_of (codes "p cnf 9 12\n1 0\n") ≡ Some (record { variables = 9; clauses = 12 })
  pub header_without_lf : header_of (codes " p\tcnf 01 1 ") ≡
      Some (record { variables = 1; clauses = 1 })
  pub no_header : header_of (codes "c p cnf 1 1\n1 0\n") ≡ None
  pub short_header : header_of (codes "p cnf 1\n") ≡ None
  pub second_header : header_of (codes "p cnf 1 2\np cnf 3 4\n") ≡
      Some (record { variables = 1; clauses = 2 })
  pub header_after_clause : header_of (codes "1 0\np cnf 1 1\n") ≡ None
  pub large_count : header_of (codes "p cnf 1 99999999999999999999\n") ≡
      Some (record { variables = 1; clauses = 18446744073709551615 })
