-- Where the names of inputs and outputs begin in the text of a circuit. Each is in a line of its own behind the gates, after
-- a letter, a position and a space.
--     starts_of c text      for each input and output where its name begins
use Rattle.std.specs.Prelude.{ℕ, ◌+◌, ◌-◌, ◌*◌, ◌^◌, min, Bool, true, false, List, [], ◌∷◌, length, replicate, slice_set, Option, Some, None, nat_lt, ◌==◌, if◌then◌else◌}
use Rattle.sat_formula.specs.Bytes.{is_digit, is_lf}
use Rattle.sat_formula.specs.Digits.{value_after}
use Rattle.circuit_text.specs.Circuits.{Circuit}
use Rattle.circuit_names.specs.declared.place.Kind.{Kind}
use Rattle.circuit_names.specs.declared.place.Kind.TheVariants.{Input, Output}
use Rattle.circuit_names.specs.declared.place.Place.{Place}
use Rattle.circuit_names.specs.declared.place.Place.TheVariants.{Lines, Numbers, Start, Position, AfterC, Rest, Comment}
use Rattle.circuit_names.specs.declared.table.Table.{Table}

-- before this many lines, and gates with this many numbers behind them
abbrev pub place_before : ℕ → ℕ → Place
place_before lines numbers =
    if nat_lt 0 lines then Lines lines numbers else if nat_lt 0 numbers then Numbers numbers else Start

-- after the first byte of a line behind the gates
abbrev pub letter_place : ℕ → Place
letter_place b =
    if b == 105 then Position Input 0
    else if b == 111 then Position Output 0
    else if b == 99 then AfterC
    else Rest

-- the place after a byte
unfoldable pub place_after : Place → ℕ → Place
place_after (Lines lines numbers) b = if is_lf b then place_before (lines - 1) numbers else Lines lines numbers
place_after (Numbers numbers) b = if nat_lt b 128 then place_before 0 (numbers - 1) else Numbers numbers
place_after Start b = letter_place b
place_after (Position kind v) b = if is_digit b then Position kind (value_after v b) else Rest
place_after AfterC b = if is_lf b then Comment else Rest
place_after Rest b = if is_lf b then Start else Rest
place_after Comment b = Comment

-- the input or output whose name begins after a byte
abbrev pub named_after : Place → ℕ → Option (Kind × ℕ)
named_after (Lines lines numbers) b = None
named_after (Numbers numbers) b = None
named_after Start b = None
named_after (Position kind v) b = if is_digit b then None else Some (kind, v)
named_after AfterC b = None
named_after Rest b = None
named_after Comment b = None

-- ---- where names begin

-- the place, and for each input and output the index of the first byte of its name, or 0
pub record Starts : Type 0 where
  pub place : Place
  pub inputs : List ℕ
  pub outputs : List ℕ

-- as a table has them
abbrev pub starts_in : Table → Starts
starts_in t = record { place = t.place; inputs = t.inputs.items; outputs = t.outputs.items }

-- those of one kind
abbrev pub starts_for : Starts → Kind → List ℕ
starts_for s Input = s.inputs
starts_for s Output = s.outputs

-- with the beginning of one more name, if there is such an input or output
abbrev pub with_start : Starts → Kind → ℕ → ℕ → Starts
with_start s Input position start = record s { inputs = slice_set s.inputs position start }
with_start s Output position start = record s { outputs = slice_set s.outputs position start }

abbrev pub with_named : Starts → Option (Kind × ℕ) → ℕ → Starts
with_named s None next = s
with_named s (Some named) next = with_start s named.0 named.1 next

abbrev pub moved : Starts → Place → Starts
moved s p = record s { place = p }

-- after a byte, before the one at this index
abbrev pub after : Starts → ℕ → ℕ → Starts
after s b next = moved (with_named s (named_after s.place b) next) (place_after s.place b)

-- after all bytes, from an index on
abbrev pub starts_after : Starts → ℕ → List ℕ → Starts
starts_after s at [] = s
starts_after s at (b ∷ bs) = starts_after (after s b (at + 1)) (at + 1) bs

-- ---- before the symbols

-- the text form of AIGER, by the second byte of the first word
abbrev pub is_text_form : List ℕ → Bool
is_text_form [] = false
is_text_form (b ∷ []) = false
is_text_form (b ∷ second ∷ bs) = second == 97

-- the lines up to the gates: the header, latches, outputs, bad outputs and constraints
abbrev pub lines_before : Circuit → ℕ
lines_before c = 1 + length c.latches + length c.outputs + length c.bad + length c.constraints

-- numbers of 64 bits stay at the largest one
abbrev pub capped : ℕ → ℕ
capped n = min n (2 ^ 64 - 1)

-- in the text form inputs and gates are lines too; in the binary form each gate is two numbers
abbrev pub first_place : Circuit → Bool → Place
first_place c true = place_before (capped (lines_before c + c.inputs + length c.gates)) 0
first_place c false = place_before (capped (lines_before c)) (capped (length c.gates * 2))

-- before the first byte
abbrev pub first_starts : Circuit → List ℕ → Starts
first_starts c text = record {
  place = first_place c (is_text_form text);
  inputs = replicate c.inputs 0;
  outputs = replicate (length c.outputs) 0;
}

-- the whole text of a circuit
abbrev pub starts_of : Circuit → List ℕ → Starts
starts_of c text = starts_after (first_starts c text) 0 text
