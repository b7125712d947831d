-- The header of a circuit: M I L O A, and then B C J F or the first of them.
--     header_with h field v      the header with a number, or why it has none such
--     as_text h      the header of a text in the text form
--     place_at h item      where the item of this number begins: a line of numbers, a gate, or what follows the gates
--     lit_said h l, var_said h v      the literal of a code, of a variable, if the header has that variable
use Rattle.std.specs.Prelude.{ℕ, ◌+◌, ◌-◌, ◌*◌, ◌^◌, Bool, true, false, ◌&&◌, Option, Some, None, Result, Ok, Err, nat_lt, nat_le, ◌==◌, if◌then◌else◌}
use Rattle.sat_rules.specs.Clauses.{var_of}
use Rattle.circuit_text.specs.declared.fault.AigerKind.{AigerKind}
use Rattle.circuit_text.specs.declared.fault.AigerKind.TheVariants as kinds
use Rattle.circuit_text.specs.declared.header.Form.{Form}
use Rattle.circuit_text.specs.declared.header.Form.TheVariants as forms
use Rattle.circuit_text.specs.declared.header.Header.{Header}
use Rattle.circuit_text.specs.declared.header.Field.{Field}
use Rattle.circuit_text.specs.declared.header.Field.TheVariants as fields
use Rattle.circuit_text.specs.declared.spot.Line.TheVariants as lines
use Rattle.circuit_text.specs.declared.spot.Own.TheVariants as owns
use Rattle.circuit_text.specs.declared.spot.Place.{Place}
use Rattle.circuit_text.specs.declared.spot.Place.TheVariants as places

-- before the first number
abbrev pub no_header : Header
no_header = record { form = forms.Binary; maximum = 0; inputs = 0; latches = 0; outputs = 0; gates = 0; bad = 0; constraints = 0 }

-- the header of a text in the text form
abbrev pub as_text : Header → Header
as_text h = record h { form = forms.Text }

-- the number after this one
abbrev pub field_after : Field → Option Field
field_after fields.Maximum = Some fields.Inputs
field_after fields.Inputs = Some fields.Latches
field_after fields.Latches = Some fields.Outputs
field_after fields.Outputs = Some fields.Gates
field_after fields.Gates = Some fields.Bad
field_after fields.Bad = Some fields.Constraints
field_after fields.Constraints = Some fields.Justice
field_after fields.Justice = Some fields.Fairness
field_after fields.Fairness = None

-- the header may end after this number
abbrev pub may_end : Field → Bool
may_end fields.Maximum = false
may_end fields.Inputs = false
may_end fields.Latches = false
may_end fields.Outputs = false
may_end fields.Gates = true
may_end fields.Bad = true
may_end fields.Constraints = true
may_end fields.Justice = true
may_end fields.Fairness = true

-- the number of gates, by which the maximal variable is known
abbrev pub with_gates : Header → ℕ → Result Header AigerKind
with_gates h v =
    if h.maximum == (h.inputs + h.latches + v) then Ok (record h { gates = v }) else Err kinds.WrongMaximum

-- the number of this field; justice properties and fairness constraints are not read
abbrev pub with_count : Header → Field → ℕ → Result Header AigerKind
with_count h fields.Maximum v = Ok (record h { maximum = v })
with_count h fields.Inputs v = Ok (record h { inputs = v })
with_count h fields.Latches v = Ok (record h { latches = v })
with_count h fields.Outputs v = Ok (record h { outputs = v })
with_count h fields.Gates v = with_gates h v
with_count h fields.Bad v = Ok (record h { bad = v })
with_count h fields.Constraints v = Ok (record h { constraints = v })
with_count h fields.Justice v = if nat_lt 0 v then Err kinds.Justice else Ok h
with_count h fields.Fairness v = if nat_lt 0 v then Err kinds.Fairness else Ok h

-- each number is below 2^28, as there are no more variables
abbrev pub header_with : Header → Field → ℕ → Result Header AigerKind
header_with h field v = if nat_le (2 ^ 28) v then Err kinds.NumberTooLarge else with_count h field v

-- the literal of a code, if its variable is not above the maximal one
abbrev pub lit_said : Header → ℕ → Result ℕ AigerKind
lit_said h l =
    if nat_lt l (2 ^ 29) && nat_le (var_of l) h.maximum then Ok l else Err kinds.LiteralOutOfRange

-- the literal of a variable that is not above the maximal one
abbrev pub var_said : Header → ℕ → Result ℕ AigerKind
var_said h v =
    if nat_le v h.maximum && nat_lt (2 * v) (2 ^ 29) then Ok (2 * v) else Err kinds.LiteralOutOfRange

-- the reset of the latch of this literal: 0, 1, or the latch itself, whose first value is free then
abbrev pub reset_said : ℕ → ℕ → Result (Option Bool) AigerKind
reset_said output v =
    if v == 0 then Ok (Some false)
    else (if v == 1 then Ok (Some true)
    else (if v == output then Ok None else Err kinds.WrongReset))

-- how many symbols there may be of the kind of this letter: i, l, o, b, j or f
abbrev pub symbols_of : Header → ℕ → Option ℕ
symbols_of h b =
    if b == 105 then Some h.inputs
    else (if b == 108 then Some h.latches
    else (if b == 111 then Some h.outputs
    else (if b == 98 then Some h.bad
    else (if b == 106 then Some 0
    else (if b == 102 then Some 0 else None)))))

-- ---- items, which count from 0

-- how many lines there are up to the last one of latches, outputs, bad outputs, constraints
abbrev pub latch_lines : Header → ℕ
latch_lines h = h.latches

abbrev pub output_lines : Header → ℕ
output_lines h = latch_lines h + h.outputs

abbrev pub bad_lines : Header → ℕ
bad_lines h = output_lines h + h.bad

abbrev pub all_lines : Header → ℕ
all_lines h = bad_lines h + h.constraints

-- the start of a latch; in the text form it begins with its own literal
abbrev pub latch_place_in : Form → ℕ → Place
latch_place_in forms.Binary variable = places.Line (lines.Latch variable) None
latch_place_in forms.Text variable = places.Own owns.Latch variable None

abbrev pub latch_place : Header → ℕ → Place
latch_place h variable = latch_place_in h.form variable

-- the start of a gate
abbrev pub gate_place_in : Form → ℕ → Place
gate_place_in forms.Binary variable = places.Left variable 0 1
gate_place_in forms.Text variable = places.Own owns.Gate variable None

abbrev pub gate_place : Header → ℕ → Place
gate_place h variable = gate_place_in h.form variable

-- the variables of latches follow those of inputs, and the variables of gates follow those of latches
abbrev pub place_of : Header → ℕ → Place
place_of h item =
    if nat_lt item (latch_lines h) then latch_place h (h.inputs + 1 + item)
    else (if nat_lt item (output_lines h) then places.Line lines.Output None
    else (if nat_lt item (bad_lines h) then places.Line lines.Bad None
    else (if nat_lt item (all_lines h) then places.Line lines.Constraint None
    else (if nat_lt item (all_lines h + h.gates)
    then gate_place h (h.inputs + h.latches + 1 + (item - all_lines h))
    else places.LineStart))))

-- in the text form a line for each input comes first
abbrev pub place_in : Form → Header → ℕ → Place
place_in forms.Binary h item = place_of h item
place_in forms.Text h item =
    if nat_lt item h.inputs then places.Own owns.Input (item + 1) None else place_of h (item - h.inputs)

abbrev pub place_at : Header → ℕ → Place
place_at h item = place_in h.form h item
