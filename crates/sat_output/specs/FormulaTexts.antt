-- The text of a formula, as DIMACS.
--     header_text cs      the header, without its LF
--     clause_text c, clauses_text cs      a clause without its LF, and clauses, each with its LF
--     formula_text cs      the whole text
--     FormulaIsRead, ClausesAreRead      it is read as the formula;  and so are the clauses without a header
use Rattle.std.specs.Prelude.{◌≡◌, ℕ, ◌^◌, ◌<◌, List, [], ◌∷◌, ◌++◌, length, map, codes, decimal, All}
use Rattle.sat_formula.specs.Formula.{var_count_of}
use Rattle.sat_formula.specs.Lines.{outcome_of}
use Rattle.sat_formula.specs.Outcome.{Ended}
use Rattle.written_numbers.specs.Words.{IsCode, line_text, literal_text, spaced_word}

-- the numbers of variables and of clauses
abbrev pub header_text : List (List ℕ) → List ℕ
header_text clauses = codes "p cnf " ++ spaced_word (decimal (var_count_of clauses))
    ++ decimal (length clauses)

-- literals and a 0
abbrev pub clause_text : List ℕ → List ℕ
clause_text c = line_text (map literal_text c)

-- clauses, each with its LF
abbrev pub clauses_text : List (List ℕ) → List ℕ
clauses_text [] = []
clauses_text (c ∷ cs) = clause_text c ++ 10 ∷ clauses_text cs

-- a header, and the clauses
abbrev pub formula_text : List (List ℕ) → List ℕ
formula_text clauses = header_text clauses ++ 10 ∷ clauses_text clauses

-- what is written of a formula, whose literals are of 2^28 variables, is read as the formula
abbrev pub FormulaIsRead : Type 0
FormulaIsRead = (clauses : List (List ℕ)) → length clauses < 2 ^ 64 → All (All IsCode) clauses →
    outcome_of (formula_text clauses) ≡ (clauses, Ended)

-- and so are its clauses alone
abbrev pub ClausesAreRead : Type 0
ClausesAreRead = (clauses : List (List ℕ)) → All (All IsCode) clauses →
    outcome_of (clauses_text clauses) ≡ (clauses, Ended)
