-- Entries of an index, which are fields and empty lines: a field goes on over the lines that begin with a space or a tab.
--     entries_of text      what is between the LFs that end entries
--     line_after line entry      the number of the line after an entry
use Rattle.std.specs.Prelude.{ℕ, Bool, false, not, ◌&&◌, ◌||◌, List, [], ◌∷◌, ◌==◌, if◌then◌else◌}
use Rattle.std.specs.List.{onto_first}
use Rattle.sat_formula.specs.Bytes.{is_lf}
use Rattle.sat_formula.specs.Outcome.{next_line}

-- a space or a tab comes next
abbrev pub goes_on : List ℕ → Bool
goes_on [] = false
goes_on (b ∷ bs) = (b == 32) || (b == 9)

-- the byte, before these, ends an entry
abbrev pub ends_entry : ℕ → List ℕ → Bool
ends_entry b bs = is_lf b && not (goes_on bs)

-- the entries of a text; a text that ends with an LF has an empty one after it
abbrev pub entries_of : List ℕ → List (List ℕ)
entries_of [] = [] ∷ []
entries_of (b ∷ bs) = if ends_entry b bs then [] ∷ entries_of bs else onto_first b (entries_of bs)

-- the number of the line after an entry that begins on this line
abbrev pub line_after : ℕ → List ℕ → ℕ
line_after line [] = next_line line
line_after line (b ∷ bs) = if is_lf b then line_after (next_line line) bs else line_after line bs
