-- The names that the text of a circuit gives to its inputs and outputs.
--     name_of c text kind position      the name of an input or output; an empty one if it has none
--     said_name text kind position      the same of the circuit that a text says
use Rattle.std.specs.Prelude.{◌≡◌, ℕ, suc, ◌<◌, List, [], ◌∷◌, length, take, drop, slice_index, ◌==◌, if◌then◌else◌}
use Rattle.sat_formula.specs.Bytes.{is_lf}
use Rattle.circuit_text.specs.Circuits.{Circuit, circuit_of}
use Rattle.circuit_text.specs.declared.circuit.Circuit as read
use Rattle.circuit_text.specs.automaton.Aigers.{Outcome, Says, Faulty, outcome_of}
use Rattle.circuit_names.specs.declared.fault.Spot.{Spot}
use Rattle.circuit_names.specs.declared.names.Names.{Names}
use Rattle.circuit_names.specs.declared.names.Which.{Which}
use Rattle.circuit_names.specs.declared.place.Kind.{Kind}
use Rattle.circuit_names.specs.declared.place.Kind.TheVariants.{Input, Output}
use Rattle.circuit_names.specs.Starts.{Starts, starts_for, starts_in, starts_of}

-- how many bytes come before the end of the line
abbrev pub line_length : List ℕ → ℕ
line_length [] = 0
line_length (b ∷ bs) = if is_lf b then 0 else suc (line_length bs)

abbrev pub first_line : List ℕ → List ℕ
first_line bytes = take (line_length bytes) bytes

-- the name that begins at an index, and none at 0
abbrev pub name_at : List ℕ → ℕ → List ℕ
name_at text start = if start == 0 then [] else first_line (drop start text)

-- the name that begins at the index of its kind and position
abbrev pub name_from : List ℕ → Starts → Kind → ℕ → List ℕ
name_from text s kind position = name_at text (slice_index (starts_for s kind) position)

-- the name of an input or output of a circuit, by its text
abbrev pub name_of : Circuit → List ℕ → Kind → ℕ → List ℕ
name_of c text kind position = name_from text (starts_of c text) kind position

-- by what a text says
abbrev pub name_by : Outcome → List ℕ → Kind → ℕ → List ℕ
name_by (Says c) text kind position = name_of c text kind position
name_by (Faulty at fault) text kind position = []

abbrev pub said_name : List ℕ → Kind → ℕ → List ℕ
said_name text kind position = name_by (outcome_of text) text kind position

-- ---- as they were read

-- how many of a kind a circuit has
abbrev pub count_of : Circuit → Kind → ℕ
count_of c Input = c.inputs
count_of c Output = length c.outputs

abbrev pub name_in : Names → Kind → ℕ → List ℕ
name_in n kind position = name_from n.text.now (starts_in n.table) kind position

abbrev pub count_in : Names → Kind → ℕ
count_in n Input = n.inputs
count_in n Output = n.outputs

-- nothing has a name
abbrev pub NamesNone : Names → Type 0
NamesNone n = (kind : Kind) (p : ℕ) → p < count_in n kind → name_in n kind p ≡ []

abbrev pub spot_in : Names → Kind → ℕ → Spot
spot_in n kind position = record { circuit = n.circuit; kind = kind; position = position }

-- these are the names of a circuit, by its text, which is the first or the second one
pub record AreNames (which : Which) (c : read.Circuit) (text : List ℕ) (n : Names) : Type 0 where
  pub which_is : n.circuit ≡ which
  pub text_is : n.text.now ≡ text
  pub starts : starts_in n.table ≡ starts_of (circuit_of c) text
  pub inputs : n.inputs ≡ c.inputs
  pub outputs : n.outputs ≡ length c.outputs.items
