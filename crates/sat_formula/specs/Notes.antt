-- What a text says beside its clauses: the line on which each of them ends, and its header.
--     clause_lines text      the line on which each clause ends, in their order
--     header_of text         the counts of the header, where there is one before the end or the fault
use Rattle.std.specs.Prelude.{ℕ, List, [], ◌∷◌, map, Option}
use Rattle.sat_formula.specs.declared.counts.Counts.{Counts}
use Rattle.sat_formula.specs.declared.past.Past.{Past}
use Rattle.sat_formula.specs.Text.{State, past_of, start, Goes, Gives, Stops, step, at_end, past_at_end}

-- the line of each clause, and what came before the end
abbrev pub Notes : Type 0
Notes = List ℕ × Past

-- notes after a clause that ends on this line
abbrev pub with_line : ℕ → Notes → Notes
with_line line n = (line ∷ n.0, n.1)

-- where the input ends, which may end a clause
abbrev pub last_notes : State → Notes
last_notes s = (map (λ clause. (past_at_end s).clause_line) (at_end s).0, past_at_end s)

-- all that the bytes say, from a state on
unfoldable pub notes_at : State → List ℕ → Notes
notes_at s [] = last_notes s
notes_at s (b ∷ bs) = elim (step s b) [
  | Goes t ↦ notes_at t bs
  | Gives clause t ↦ with_line (past_of t).clause_line (notes_at t bs)
  | Stops past e ↦ ([], past)
]

-- the whole text
abbrev pub notes_of : List ℕ → Notes
notes_of text = notes_at start text

-- the lines on which its clauses end
abbrev pub clause_lines : List ℕ → List ℕ
clause_lines text = (notes_of text).0

-- the counts of its header, if one was read
abbrev pub header_of : List ℕ → Option Counts
header_of text = (notes_of text).1.header
