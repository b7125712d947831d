-- The grammar of a circuit, a byte after the other: the header, a line for each latch, output, bad output and constraint,
-- two binary numbers for each gate, symbols, and a comment. In the text form inputs and gates are lines too, and each input,
-- latch and gate begins with its own literal.
--     after s b      what one byte does
use Rattle.std.specs.Prelude.{ℕ, ◌+◌, ◌-◌, Bool, true, false, not, ◌&&◌, List, length, slice_index, codes, Option, Some, None, Result, Ok, Err, nat_lt, nat_le, ◌==◌, if◌then◌else◌}
use Rattle.sat_formula.specs.Bytes.{is_lf, letter_c}
use Rattle.sat_formula.specs.Outcome as dimacs
use Rattle.circuit_text.specs.declared.circuit.Gate.{Gate}
use Rattle.circuit_text.specs.declared.circuit.Item.{Item}
use Rattle.circuit_text.specs.declared.circuit.Item.TheVariants.{OfLatch, OfOutput, OfBad, OfConstraint, OfGate}
use Rattle.circuit_text.specs.declared.fault.AigerKind.{AigerKind}
use Rattle.circuit_text.specs.declared.fault.AigerKind.TheVariants as kinds
use Rattle.circuit_text.specs.declared.fault.Location.{Location}
use Rattle.circuit_text.specs.declared.fault.Location.TheVariants as locations
use Rattle.circuit_text.specs.declared.header.Header.{Header}
use Rattle.circuit_text.specs.declared.header.Field.{Field}
use Rattle.circuit_text.specs.declared.header.Field.TheVariants.{Maximum}
use Rattle.circuit_text.specs.declared.number.Digits.{Digits}
use Rattle.circuit_text.specs.declared.number.Digits.TheVariants as digits
use Rattle.circuit_text.specs.declared.number.Number.{Number}
use Rattle.circuit_text.specs.declared.number.Number.TheVariants as numbers
use Rattle.circuit_text.specs.declared.spot.Line as line_kinds
use Rattle.circuit_text.specs.declared.spot.Line.TheVariants as lines
use Rattle.circuit_text.specs.declared.spot.Own as own_kinds
use Rattle.circuit_text.specs.declared.spot.Own.TheVariants as owns
use Rattle.circuit_text.specs.declared.spot.Place.{Place}
use Rattle.circuit_text.specs.declared.spot.Place.TheVariants.{Word, Head, Line, Reset, Own, First, Second, Left, Right, LineStart, AfterC, Position, Name, Comment}
use Rattle.circuit_text.specs.declared.spot.Spot.{Spot}
use Rattle.circuit_text.specs.declared.spot.After.{After}
use Rattle.circuit_text.specs.declared.spot.After.TheVariants.{Next, Gives, Stops}
use Rattle.circuit_text.specs.automaton.Headers.{as_text, field_after, header_with, lit_said, may_end, no_header, place_at, reset_said, symbols_of, var_said}
use Rattle.circuit_text.specs.automaton.Numbers.{digits_after, number_after}

-- the space, the only blank
abbrev pub is_space : ℕ → Bool
is_space b = b == 32

-- the start of a text
abbrev pub start : Spot
start = record { header = no_header; line = 1; item = 0; place = Word 0 }

-- the text may end at a place
abbrev pub is_done : Place → Bool
is_done (Word read) = false
is_done (Head field v) = false
is_done (Line line v) = false
is_done (Reset variable next v) = false
is_done (Own own variable v) = false
is_done (First variable v) = false
is_done (Second variable left v) = false
is_done (Left variable value weight) = false
is_done (Right variable left value weight) = false
is_done LineStart = true
is_done AfterC = false
is_done (Position count v) = false
is_done Name = false
is_done Comment = true

-- where a fault is: at a gate, or on a line
abbrev pub location_at : Place → ℕ → Location
location_at (Word read) line = locations.Line line
location_at (Head field v) line = locations.Line line
location_at (Line kind v) line = locations.Line line
location_at (Reset variable next v) line = locations.Line line
location_at (Own own variable v) line = locations.Line line
location_at (First variable v) line = locations.Line line
location_at (Second variable left v) line = locations.Line line
location_at (Left variable value weight) line = locations.Gate variable
location_at (Right variable left value weight) line = locations.Gate variable
location_at LineStart line = locations.Line line
location_at AfterC line = locations.Line line
location_at (Position count v) line = locations.Line line
location_at Name line = locations.Line line
location_at Comment line = locations.Line line

abbrev pub location : Spot → Location
location s = location_at s.place s.line

-- another place of the same line
abbrev pub moved : Spot → Place → Spot
moved s p = record s { place = p }

-- the same place of the next line
abbrev pub next_line : Spot → Spot
next_line s = record s { line = dimacs.next_line s.line }

-- the start of the next item
abbrev pub next_item : Spot → Spot
next_item s = let item = dimacs.next_line s.item in
    record s { item = item; place = place_at s.header item }

-- ---- the header

-- the word with which a text begins, and the space after it
abbrev pub first_word : List ℕ
first_word = codes "aig "

-- a byte of the first word; an `a` in the place of the `i` tells the text form
abbrev pub in_word : Spot → ℕ → ℕ → After
in_word s read b =
    if (read == 1) && (b == 97) then Next (moved (record s { header = as_text s.header }) (Word 2))
    else (if not (nat_lt read (length first_word) && (slice_index first_word read == b)) then Stops kinds.NoHeader
    else (if (read + 1) == length first_word then Next (moved s (Head Maximum None)) else Next (moved s (Word (read + 1)))))

-- a space leads to the next number
abbrev pub next_field : Spot → Option Field → ℕ → After
next_field s None b = Stops kinds.Malformed
next_field s (Some next) b = if is_space b then Next (moved s (Head next None)) else Stops kinds.Malformed

-- the byte after a number of the header: an LF ends the header
abbrev pub header_read : Spot → Field → ℕ → After
header_read s field b =
    if is_lf b && may_end field then Next (moved (next_line s) (place_at s.header 0))
    else next_field s (field_after field) b

-- a number of the header was read up to this byte
abbrev pub with_header : Spot → Field → Result Header AigerKind → ℕ → After
with_header s field (Ok h) b = header_read (record s { header = h }) field b
with_header s field (Err kind) b = Stops kind

-- a byte of a number of the header, or after it
abbrev pub in_header : Spot → Field → Digits → ℕ → After
in_header s field (digits.More v) b = Next (moved s (Head field (Some v)))
in_header s field digits.Missing b = Stops kinds.Malformed
in_header s field (digits.Whole v) b = with_header s field (header_with s.header field v) b

-- ---- lines of numbers

-- an item was read, with its line
abbrev pub item_read : Spot → Item → After
item_read s item = Gives item (next_item (next_line s))

-- the line of a latch was read, with this literal of its variable and this reset
abbrev pub latch_said : Spot → ℕ → ℕ → Result (Option Bool) AigerKind → After
latch_said s output next (Ok reset) =
    item_read s (OfLatch (record { output = output; next = next; reset = reset }))
latch_said s output next (Err kind) = Stops kind

-- the line of the latch with the literal of its variable
abbrev pub latch_read : Spot → Result ℕ AigerKind → ℕ → ℕ → After
latch_read s (Ok output) next v = latch_said s output next (reset_said output v)
latch_read s (Err kind) next v = Stops kind

-- the byte after the first literal of a line: in the line of a latch its reset, which is 0 if it is left out, may follow
abbrev pub lit_read : Spot → line_kinds.Line → ℕ → ℕ → After
lit_read s (lines.Latch variable) l b =
    if is_space b then Next (moved s (Reset variable l None))
    else (if is_lf b then latch_read s (var_said s.header variable) l 0 else Stops kinds.Malformed)
lit_read s lines.Output l b = if is_lf b then item_read s (OfOutput l) else Stops kinds.Malformed
lit_read s lines.Bad l b = if is_lf b then item_read s (OfBad l) else Stops kinds.Malformed
lit_read s lines.Constraint l b = if is_lf b then item_read s (OfConstraint l) else Stops kinds.Malformed

abbrev pub line_lit : Spot → line_kinds.Line → Result ℕ AigerKind → ℕ → After
line_lit s kind (Ok l) b = lit_read s kind l b
line_lit s kind (Err fault) b = Stops fault

-- a byte of the first number of a line, or after it
abbrev pub in_line : Spot → line_kinds.Line → Digits → ℕ → After
in_line s kind (digits.More v) b = Next (moved s (Line kind (Some v)))
in_line s kind digits.Missing b = Stops kinds.Malformed
in_line s kind (digits.Whole v) b = line_lit s kind (lit_said s.header v) b

-- the reset of the latch of this variable was read
abbrev pub reset_read : Spot → ℕ → Result ℕ AigerKind → ℕ → After
reset_read s variable (Ok next) v = latch_read s (var_said s.header variable) next v
reset_read s variable (Err kind) v = Stops kind

-- a byte of a reset, or after it
abbrev pub in_reset : Spot → ℕ → ℕ → Digits → ℕ → After
in_reset s variable next (digits.More v) b = Next (moved s (Reset variable next (Some v)))
in_reset s variable next digits.Missing b = Stops kinds.Malformed
in_reset s variable next (digits.Whole v) b =
    if is_lf b then reset_read s variable (lit_said s.header next) v else Stops kinds.Malformed

-- ---- gates

-- the literal whose code is this much less, if there is one
abbrev pub lit_less : ℕ → ℕ → Option ℕ
lit_less l less = if nat_le less l then Some (l - less) else None

-- the first literal of the gate of this variable is less than the gate's own
abbrev pub left_said : Spot → ℕ → Option ℕ → ℕ → After
left_said s variable None less = Stops kinds.GateOrder
left_said s variable (Some left) less =
    if nat_lt 0 less then Next (moved s (Right variable left 0 1)) else Stops kinds.GateOrder

-- the first number of the gate of this variable, which has this literal
abbrev pub left_read : Spot → ℕ → Result ℕ AigerKind → ℕ → After
left_read s variable (Ok output) less = left_said s variable (lit_less output less) less
left_read s variable (Err kind) less = Stops kind

-- a byte of the first number of a gate
abbrev pub in_left : Spot → ℕ → Number → After
in_left s variable (numbers.Partial value weight) = Next (moved s (Left variable value weight))
in_left s variable numbers.TooLong = Stops kinds.NumberTooLarge
in_left s variable (numbers.Whole less) = left_read s variable (var_said s.header variable) less

-- its second literal is at most the first one
abbrev pub gate_said : Spot → ℕ → ℕ → Option ℕ → After
gate_said s output left None = Stops kinds.GateOrder
gate_said s output left (Some right) =
    Gives (OfGate (record { output = output; left = left; right = right })) (next_item s)

-- a gate with this literal
abbrev pub gate_read : Spot → Result ℕ AigerKind → ℕ → Option ℕ → After
gate_read s (Ok output) left right = gate_said s output left right
gate_read s (Err kind) left right = Stops kind

-- the second number of the gate of this variable
abbrev pub right_read : Spot → ℕ → Result ℕ AigerKind → ℕ → After
right_read s variable (Ok left) less = gate_read s (var_said s.header variable) left (lit_less left less)
right_read s variable (Err kind) less = Stops kind

-- a byte of the second number of a gate
abbrev pub in_right : Spot → ℕ → ℕ → Number → After
in_right s variable left (numbers.Partial value weight) = Next (moved s (Right variable left value weight))
in_right s variable left numbers.TooLong = Stops kinds.NumberTooLarge
in_right s variable left (numbers.Whole less) = right_read s variable (lit_said s.header left) less

-- ---- the text form

-- the own literal of an input, a latch or a gate was read: an LF ends the line of an input
abbrev pub own_said : Spot → own_kinds.Own → ℕ → ℕ → After
own_said s owns.Input variable b = if is_lf b then Next (next_item (next_line s)) else Stops kinds.Malformed
own_said s owns.Latch variable b =
    if is_space b then Next (moved s (Line (lines.Latch variable) None)) else Stops kinds.Malformed
own_said s owns.Gate variable b = if is_space b then Next (moved s (First variable None)) else Stops kinds.Malformed

-- it is the literal of the next variable
abbrev pub own_read : Spot → own_kinds.Own → ℕ → Result ℕ AigerKind → ℕ → ℕ → After
own_read s own variable (Ok output) v b =
    if v == output then own_said s own variable b else Stops kinds.OtherOrder
own_read s own variable (Err kind) v b = Stops kind

-- a byte of an own literal, or after it
abbrev pub in_own : Spot → own_kinds.Own → ℕ → Digits → ℕ → After
in_own s own variable (digits.More v) b = Next (moved s (Own own variable (Some v)))
in_own s own variable digits.Missing b = Stops kinds.Malformed
in_own s own variable (digits.Whole v) b = own_read s own variable (var_said s.header variable) v b

-- the first literal of a gate is below its own
abbrev pub first_said : Spot → ℕ → ℕ → ℕ → ℕ → After
first_said s variable output left b =
    if nat_le output left then Stops kinds.LaterGate
    else (if is_space b then Next (moved s (Second variable left None)) else Stops kinds.Malformed)

abbrev pub first_read : Spot → ℕ → Result ℕ AigerKind → Result ℕ AigerKind → ℕ → After
first_read s variable (Ok output) (Ok left) b = first_said s variable output left b
first_read s variable (Ok output) (Err kind) b = Stops kind
first_read s variable (Err kind) left b = Stops kind

-- a byte of the first literal of a gate, or after it
abbrev pub in_first : Spot → ℕ → Digits → ℕ → After
in_first s variable (digits.More v) b = Next (moved s (First variable (Some v)))
in_first s variable digits.Missing b = Stops kinds.Malformed
in_first s variable (digits.Whole v) b = first_read s variable (var_said s.header variable) (lit_said s.header v) b

-- the second literal is below the gate's own, and an LF ends the line
abbrev pub second_said : Spot → Gate → ℕ → After
second_said s gate b =
    if nat_le gate.output gate.right then Stops kinds.LaterGate
    else (if is_lf b then item_read s (OfGate gate) else Stops kinds.Malformed)

abbrev pub second_read : Spot → Result ℕ AigerKind → Result ℕ AigerKind → Result ℕ AigerKind → ℕ → After
second_read s (Ok output) (Ok left) (Ok right) b =
    second_said s (record { output = output; left = left; right = right }) b
second_read s (Ok output) (Ok left) (Err kind) b = Stops kind
second_read s (Ok output) (Err kind) right b = Stops kind
second_read s (Err kind) left right b = Stops kind

-- a byte of the second literal of a gate, or after it
abbrev pub in_second : Spot → ℕ → ℕ → Digits → ℕ → After
in_second s variable left (digits.More v) b = Next (moved s (Second variable left (Some v)))
in_second s variable left digits.Missing b = Stops kinds.Malformed
in_second s variable left (digits.Whole v) b =
    second_read s (var_said s.header variable) (lit_said s.header left) (lit_said s.header v) b

-- ---- symbols and the comment

-- the position of a symbol was read: it is below this count, and a space follows
abbrev pub position_read : Spot → ℕ → ℕ → ℕ → After
position_read s count v b =
    if not (is_space b) then Stops kinds.Malformed
    else (if nat_lt v count then Next (moved s Name) else Stops kinds.SymbolOutOfRange)

-- a byte of the position of a symbol, or after it
abbrev pub in_position : Spot → ℕ → Digits → ℕ → After
in_position s count (digits.More v) b = Next (moved s (Position count (Some v)))
in_position s count digits.Missing b = Stops kinds.Malformed
in_position s count (digits.Whole v) b = position_read s count v b

abbrev pub symbol_start : Spot → Option ℕ → After
symbol_start s None = Stops kinds.Malformed
symbol_start s (Some count) = Next (moved s (Position count None))

-- the first byte of a line after the gates
abbrev pub line_start : Spot → ℕ → After
line_start s b = if b == letter_c then Next (moved s AfterC) else symbol_start s (symbols_of s.header b)

-- after a `c`: an LF begins the comment, and a digit is of a constraint's symbol
abbrev pub after_c : Spot → ℕ → After
after_c s b =
    if is_lf b then Next (moved (next_line s) Comment)
    else in_position s s.header.constraints (digits_after None b) b

-- a byte of a symbol's name
abbrev pub in_name : Spot → ℕ → After
in_name s b = if is_lf b then Next (moved (next_line s) LineStart) else Next s

-- ---- a byte

-- one byte, at each place
abbrev pub after_at : Place → Spot → ℕ → After
after_at (Word read) s b = in_word s read b
after_at (Head field v) s b = in_header s field (digits_after v b) b
after_at (Line kind v) s b = in_line s kind (digits_after v b) b
after_at (Reset variable next v) s b = in_reset s variable next (digits_after v b) b
after_at (Own own variable v) s b = in_own s own variable (digits_after v b) b
after_at (First variable v) s b = in_first s variable (digits_after v b) b
after_at (Second variable left v) s b = in_second s variable left (digits_after v b) b
after_at (Left variable value weight) s b = in_left s variable (number_after value weight b)
after_at (Right variable left value weight) s b = in_right s variable left (number_after value weight b)
after_at LineStart s b = line_start s b
after_at AfterC s b = after_c s b
after_at (Position count v) s b = in_position s count (digits_after v b) b
after_at Name s b = in_name s b
after_at Comment s b = Next s

-- one byte
unfoldable pub after : Spot → ℕ → After
after s b = after_at s.place s b
