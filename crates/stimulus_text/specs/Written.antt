-- A stimulus as it is written, line after line.
--     stimulus_of shape text      the first values of the latches and the values of the inputs at each step, for a machine of
--                                 this shape; none if the text is of no such stimulus
use Rattle.std.specs.Prelude.{ℕ, Bool, true, false, ◌&&◌, ◌||◌, List, [], ◌∷◌, ◌++◌, length, map, codes, Option, Some, None, ◌==◌, if◌then◌else◌}
use Rattle.std.specs.List.{list_all, slice_split}
use Rattle.std.specs.Str.{bytes_eq}
use Rattle.sat_formula.specs.Bytes.{letter_c}
use Rattle.sat_formula.specs.Lines.{is_digits, lines_of}
use Rattle.stimulus_text.specs.declared.spot.Shape.{Shape}

-- ---- lines

-- `0`, `1`, or an `x`, which may be any value, and is 0 here
abbrev pub is_value : ℕ → Bool
is_value b = (b == 48) || ((b == 120) || (b == 49))

-- this many values
abbrev pub is_row : ℕ → List ℕ → Bool
is_row width line = (length line == width) && list_all is_value line

-- the values of a line
abbrev pub values_in : List ℕ → List Bool
values_in line = map (λ b. b == 49) line

-- a `b` and digits; which property it is does not matter
abbrev pub is_property : List ℕ → Bool
is_property [] = false
is_property (b ∷ bs) = (b == 98) && is_digits bs

-- properties, with a space between two
abbrev pub are_properties : List ℕ → Bool
are_properties line = list_all is_property (slice_split (λ b. b == 32) line)

-- there is no line
abbrev pub are_none : List (List ℕ) → Bool
are_none [] = true
are_none (l ∷ ls) = false

-- comments; after the last LF there may be nothing
unfoldable pub are_comments : List (List ℕ) → Bool
are_comments [] = true
are_comments ([] ∷ ls) = are_none ls
are_comments ((b ∷ bs) ∷ ls) = (b == letter_c) && are_comments ls

-- ---- a text

-- a line of inputs for each step, and a `.`, after these first values and these steps
unfoldable pub steps_from : ℕ → List Bool → List (List Bool) → List (List ℕ) → Option (List Bool × List (List Bool))
steps_from width first steps [] = None
steps_from width first steps (l ∷ ls) =
    if bytes_eq l (codes ".") then (if are_comments ls then Some (first, steps) else None)
    else (if is_row width l then steps_from width first (steps ++ values_in l ∷ []) ls else None)

-- lines of properties, a line of latches, and the steps
unfoldable pub latches_from : Shape → List (List ℕ) → Option (List Bool × List (List Bool))
latches_from shape [] = None
latches_from shape (l ∷ ls) =
    if are_properties l then latches_from shape ls
    else (if is_row shape.latches l then steps_from shape.inputs (values_in l) [] ls else None)

-- the status comes first
abbrev pub stimulus_in : Shape → List (List ℕ) → Option (List Bool × List (List Bool))
stimulus_in shape [] = None
stimulus_in shape (l ∷ ls) = if bytes_eq l (codes "1") then latches_from shape ls else None

-- the whole text
abbrev pub stimulus_of : Shape → List ℕ → Option (List Bool × List (List Bool))
stimulus_of shape text = stimulus_in shape (lines_of text)
