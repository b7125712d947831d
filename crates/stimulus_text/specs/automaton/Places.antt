-- The grammar of a stimulus, a byte after the other: the status `1`; lines of properties, `b` and a number each; a line of
-- the latches' values; a line of the inputs' values for each step; a `.`; and comments.
--     after s b      what one byte does
use Rattle.std.specs.Prelude.{ℕ, ◌+◌, Bool, true, false, not, ◌&&◌, Option, Some, None, nat_lt, ◌==◌, if◌then◌else◌}
use Rattle.sat_formula.specs.Bytes.{is_digit, is_lf, letter_c}
use Rattle.sat_formula.specs.Outcome as dimacs
use Rattle.stimulus_text.specs.declared.fault.StimulusKind.{StimulusKind}
use Rattle.stimulus_text.specs.declared.fault.StimulusKind.TheVariants as kinds
use Rattle.stimulus_text.specs.declared.spot.Shape.{Shape}
use Rattle.stimulus_text.specs.declared.spot.Row as row_kinds
use Rattle.stimulus_text.specs.declared.spot.Row.TheVariants.{Latches, Inputs}
use Rattle.stimulus_text.specs.declared.spot.Place.{Place}
use Rattle.stimulus_text.specs.declared.spot.Place.TheVariants as places
use Rattle.stimulus_text.specs.declared.spot.Spot.{Spot}
use Rattle.stimulus_text.specs.declared.spot.After.{After}
use Rattle.stimulus_text.specs.declared.spot.After.TheVariants.{Next, Gives, Stops}
use Rattle.stimulus_text.specs.declared.stimulus.Item.{Item}
use Rattle.stimulus_text.specs.declared.stimulus.Item.TheVariants.{OfLatch, OfInput, OfStep}

-- the start of a text
abbrev pub start : Shape → Spot
start shape = record { shape = shape; line = 1; place = places.Status }

-- another place of the same line
abbrev pub moved : Spot → Place → Spot
moved s p = record s { place = p }

-- a place of the next line
abbrev pub next_line : Spot → Place → Spot
next_line s p = record s { line = dimacs.next_line s.line; place = p }

-- the text may end at a place
abbrev pub is_done : Place → Bool
is_done places.Status = false
is_done places.Told = false
is_done places.Properties = false
is_done (places.Property any) = false
is_done places.Between = false
is_done (places.Values row n) = false
is_done places.Dot = true
is_done places.LineStart = true
is_done places.Comment = true

-- ---- lines of values

-- how many values such a line has
abbrev pub width : Shape → row_kinds.Row → ℕ
width shape Latches = shape.latches
width shape Inputs = shape.inputs

-- what is wrong with a line that has not as many
abbrev pub kind_of : row_kinds.Row → StimulusKind
kind_of Latches = kinds.OtherLatches
kind_of Inputs = kinds.OtherInputs

-- what a value of such a line says
abbrev pub item_of : row_kinds.Row → Bool → Item
item_of Latches b = OfLatch b
item_of Inputs b = OfInput b

-- a byte of such a line, after this many values, is the `.` that follows the steps
abbrev pub is_dot : row_kinds.Row → ℕ → ℕ → Bool
is_dot Latches n b = false
is_dot Inputs n b = (n == 0) && (b == 46)

-- the value that a byte says: `0`, `1`, or an `x`, which may be anything, and is 0 here
abbrev pub value_of : ℕ → Option Bool
value_of b =
    if b == 48 then Some false
    else (if b == 120 then Some false else (if b == 49 then Some true else None))

-- a byte that is this value, where it is one
abbrev pub value_read : Spot → row_kinds.Row → ℕ → Option Bool → After
value_read s row n None = Stops kinds.Malformed
value_read s row n (Some value) =
    if nat_lt n (width s.shape row) then Gives (item_of row value) (moved s (places.Values row (n + 1)))
    else Stops (kind_of row)

-- the end of a line that has all its values: a step may follow
abbrev pub row_read : Spot → row_kinds.Row → After
row_read s Latches = Next (next_line s (places.Values Inputs 0))
row_read s Inputs = Gives OfStep (next_line s (places.Values Inputs 0))

-- a byte after this many values of a line
abbrev pub in_values : Spot → row_kinds.Row → ℕ → ℕ → After
in_values s row n b =
    if not (is_lf b) then value_read s row n (value_of b)
    else (if n == width s.shape row then row_read s row else Stops (kind_of row))

-- it may be the `.`
abbrev pub in_row : Spot → row_kinds.Row → ℕ → ℕ → After
in_row s row n b = if is_dot row n b then Next (moved s places.Dot) else in_values s row n b

-- ---- other lines

-- the status
abbrev pub at_status : Spot → ℕ → After
at_status s b =
    if b == 49 then Next (moved s places.Told)
    else (if b == 48 then Stops kinds.Unreached
    else (if b == 50 then Stops kinds.Unknown else Stops kinds.Malformed))

-- the first byte of a line of properties, or of the line of the latches
abbrev pub properties : Spot → ℕ → After
properties s b = if b == 98 then Next (moved s (places.Property false)) else in_row s Latches 0 b

-- the number of a property, whose value doesn't matter
abbrev pub in_property : Spot → Bool → ℕ → After
in_property s any b =
    if is_digit b then Next (moved s (places.Property true))
    else (if any && is_lf b then Next (next_line s places.Properties)
    else (if any && (b == 32) then Next (moved s places.Between) else Stops kinds.Malformed))

-- after a blank that follows a property
abbrev pub between : Spot → ℕ → After
between s b = if b == 98 then Next (moved s (places.Property false)) else Stops kinds.Malformed

-- a line after that of the `.`
abbrev pub line_start : Spot → ℕ → After
line_start s b = if b == letter_c then Next (moved s places.Comment) else Stops kinds.Malformed

-- one byte, at each place
abbrev pub after_at : Place → Spot → ℕ → After
after_at places.Status s b = at_status s b
after_at places.Told s b = if is_lf b then Next (next_line s places.Properties) else Stops kinds.Malformed
after_at places.Properties s b = properties s b
after_at (places.Property any) s b = in_property s any b
after_at places.Between s b = between s b
after_at (places.Values row n) s b = in_row s row n b
after_at places.Dot s b = if is_lf b then Next (next_line s places.LineStart) else Stops kinds.Malformed
after_at places.LineStart s b = line_start s b
after_at places.Comment s b = if is_lf b then Next (next_line s places.LineStart) else Next s

-- one byte
unfoldable pub after : Spot → ℕ → After
after s b = after_at s.place s b
