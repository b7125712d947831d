-- The text of DRAT steps, and of those that LRAT lines are.
--     addition_text c, deletion_text c      a step that adds or deletes a clause, with its LF
--     adds_clause x      whether a line adds a clause
--     step_text begun st x, steps_text begun st xs      the steps of a line, and of lines in turn, after what is stored
use Rattle.std.specs.Prelude.{ℕ, Bool, true, false, ◌||◌, List, [], ◌∷◌, ◌++◌, codes, Option, Some, None}
use Rattle.sat_rules.specs.Named.{Item}
use Rattle.lrat_rules.specs.Lines.{Line, adds, after, deletes}
use Rattle.lrat_rules.specs.Stores.{find}
use Rattle.sat_output.specs.FormulaTexts.{clause_text}

-- the literals in their order, and a 0
abbrev pub addition_text : List ℕ → List ℕ
addition_text c = clause_text c ++ 10 ∷ []

-- a d, the literals in their order, and a 0
abbrev pub deletion_text : List ℕ → List ℕ
deletion_text c = codes "d " ++ addition_text c

-- a deletion of the clause, where there is one
abbrev pub deletion_of : Option (List ℕ) → List ℕ
deletion_of None = []
deletion_of (Some c) = deletion_text c

-- a deletion of the clause of each id, where it is stored
abbrev pub deletions_text : List Item → List ℕ → List ℕ
deletions_text st [] = []
deletions_text st (i ∷ is) = deletion_of (find st i) ++ deletions_text st is

-- whether a line adds a clause
abbrev pub adds_clause : Line → Bool
adds_clause (adds i c hs) = true
adds_clause (deletes is) = false

-- the clause is added, without id and hints; of each id that is deleted, the clause is, but not before the first addition:
-- there the clauses of the formula go that are not used
abbrev pub step_text : Bool → List Item → Line → List ℕ
step_text begun st (adds i c hs) = addition_text c
step_text true st (deletes is) = deletions_text st is
step_text false st (deletes is) = []

-- each line after what the lines before it have left
abbrev pub steps_text : Bool → List Item → List Line → List ℕ
steps_text begun st [] = []
steps_text begun st (x ∷ xs) = step_text begun st x ++ steps_text (begun || adds_clause x) (after st x) xs
