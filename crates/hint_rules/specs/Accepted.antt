-- Which texts of hint lines are accepted.
--     said_all ls      the lines of hints that lines of text say
--     Accepts h text k      all lines of the text are accepted after h, and lead to k
--     adds_empty x      whether a line adds the empty clause
use Rattle.std.specs.Prelude.{◌≡◌, ℕ, Bool, false, List, [], ◌∷◌, Option, Some, None}
use Rattle.sat_rules.specs.HintLines.{Follows, HintLine, Listed, adds_clause, deletes_clauses, is_empty}
use Rattle.sat_formula.specs.Lines.{lines_of}
use Rattle.hint_rules.specs.Text as text
use Rattle.hint_rules.specs.Text.{Said, in_front, said_by}

-- what one line says, before the others
abbrev pub joined : Said → Option (List HintLine) → Option (List HintLine)
joined text.Nothing rest = rest
joined (text.Line x) rest = in_front x rest
joined text.Malformed rest = None

-- the lines of hints that lines of text say, unless one is malformed
abbrev pub said_all : List (List ℕ) → Option (List HintLine)
said_all [] = Some []
said_all (l ∷ ls) = joined (said_by l) (said_all ls)

-- all lines of the text are accepted after h, and lead to k
pub record Accepts (h : Listed) (bytes : List ℕ) (k : Listed) : Type 0 where
  pub lines : List HintLine
  pub said : said_all (lines_of bytes) ≡ Some lines
  pub follow : Follows h lines k

-- whether a line adds the empty clause
abbrev pub adds_empty : HintLine → Bool
adds_empty (adds_clause id c hints) = is_empty c
adds_empty (deletes_clauses number ids) = false
