-- How the inputs and outputs of two circuits are paired.
--     ArePlaces n names names' places      where, among n names, each of as many other ones stands
--     arranged inputs outputs c      the circuit with other inputs in place of its own, and its outputs in another order
--     IsPaired pairing text text' c c' d      d is the second circuit, with its inputs and outputs in the order of the first one
--     IsPairFault text text' c c' fault      the names can't be paired, for this reason
use Rattle.std.specs.Prelude.{◌≡◌, ◌≢◌, ◌⊎◌, ℕ, suc, ◌-◌, ◌*◌, ◌<◌, ◌^◌, Bool, if◌then◌else◌, ◌&&◌, nat_lt, List, [], map, length, slice_index}
use Rattle.sat_rules.specs.Clauses.{is_negative, negate, var_of}
use Rattle.circuit_rules.specs.Circuits.{Gate}
use Rattle.circuit_text.specs.Circuits.{Circuit}
use Rattle.circuit_text.specs.Written.{IsAiger}
use Rattle.circuit_names.specs.declared.fault.PairFault.{PairFault}
use Rattle.circuit_names.specs.declared.fault.PairFault.TheVariants.{Unnamed, Repeated, Unmatched, OutOfMemory}
use Rattle.circuit_names.specs.declared.fault.Spot.{Spot}
use Rattle.circuit_names.specs.declared.names.Which.{Which}
use Rattle.circuit_names.specs.declared.names.Which.TheVariants.{First, Second}
use Rattle.circuit_names.specs.declared.pairing.Pairing.{Pairing}
use Rattle.circuit_names.specs.declared.pairing.Pairing.TheVariants.{ByName, ByPosition}
use Rattle.circuit_names.specs.declared.place.Kind.{Kind}
use Rattle.circuit_names.specs.declared.place.Kind.TheVariants.{Input, Output}
use Rattle.circuit_names.specs.Names.{count_of, name_of}

-- ---- names

-- each of n has a name, and no two have the same one
pub record AreNamed (n : ℕ) (names : ℕ → List ℕ) : Type 0 where
  pub each : (p : ℕ) → p < n → names p ≢ []
  pub apart : (p q : ℕ) → p < n → q < n → names p ≡ names q → p ≡ q

-- the name stands at this place among n names
abbrev pub IsPlace : ℕ → (ℕ → List ℕ) → List ℕ → ℕ → Type 0
IsPlace n names name place = (place < n) × (names place ≡ name)

-- the place of each of n other names among n names
pub record ArePlaces (n : ℕ) (names names' : ℕ → List ℕ) (places : List ℕ) : Type 0 where
  pub as_many : length places ≡ n
  pub each : (p : ℕ) → p < n → IsPlace n names (names' p) (slice_index places p)

-- ---- circuits

-- the literal of an input
abbrev pub input_lit : ℕ → ℕ
input_lit place = 2 * suc place

-- whether the literal is of one of the first n variables, which are the inputs
abbrev pub is_input : ℕ → ℕ → Bool
is_input n l = nat_lt 0 (var_of l) && nat_lt (var_of l) (suc n)

-- with the same sign
abbrev pub signed : ℕ → ℕ → ℕ
signed l to = if is_negative l then negate to else to

-- the literal, where each input has become the literal that the list has for it
abbrev pub renamed : List ℕ → ℕ → ℕ
renamed inputs l = if is_input (length inputs) l then signed l (slice_index inputs (var_of l - 1)) else l

abbrev pub renamed_gate : List ℕ → Gate → Gate
renamed_gate inputs g = record { var = g.var; left = renamed inputs g.left; right = renamed inputs g.right }

-- the circuit whose inputs are those at these places of another circuit, and whose outputs are its own at these places
abbrev pub arranged : List ℕ → List ℕ → Circuit → Circuit
arranged inputs outputs c = record c {
  gates = map (renamed_gate (map input_lit inputs)) c.gates;
  outputs = map (λ place. renamed (map input_lit inputs) (slice_index c.outputs place)) outputs;
}

-- as many inputs, which all have literals, and as many outputs
pub record HaveOneShape (c c' : Circuit) : Type 0 where
  pub inputs : c.inputs ≡ c'.inputs
  pub few : c.inputs < 2 ^ 28
  pub outputs : length c.outputs ≡ length c'.outputs

-- ---- pairs

-- the text names nothing
abbrev pub IsUnnamed : List ℕ → Circuit → Type 0
IsUnnamed text c = (kind : Kind) (p : ℕ) → p < count_of c kind → name_of c text kind p ≡ []

-- both texts name all, and with the same names: each input of the second circuit is the one at its place of the first one, and
-- each output of the first one is the one at its place of the second one
pub record AreByName (text text' : List ℕ) (c c' : Circuit) (inputs outputs : List ℕ) : Type 0 where
  pub named : (kind : Kind) → AreNamed (count_of c kind) (name_of c text kind)
  pub named' : (kind : Kind) → AreNamed (count_of c kind) (name_of c' text' kind)
  pub inputs_are : ArePlaces (count_of c Input) (name_of c text Input) (name_of c' text' Input) inputs
  pub outputs_are : ArePlaces (count_of c Output) (name_of c' text' Output) (name_of c text Output) outputs

-- the second circuit as it is, where neither text names anything, or the circuits have not one shape; else by their names
pub data IsPairedByName (text text' : List ℕ) (c c' d : Circuit) : Type 0 where
  unnamed : IsUnnamed text c → IsUnnamed text' c' → d ≡ c' → IsPairedByName text text' c c' d
  unlike : (HaveOneShape c c' → ⊥) → d ≡ c' → IsPairedByName text text' c c' d
  by_name : (inputs outputs : List ℕ) → AreByName text text' c c' inputs outputs → d ≡ arranged inputs outputs c'
      → IsPairedByName text text' c c' d

-- the second circuit as it is, or by names
abbrev pub IsPaired : Pairing → List ℕ → List ℕ → Circuit → Circuit → Circuit → Type 0
IsPaired ByPosition text text' c c' d = d ≡ c'
IsPaired ByName text text' c c' d = IsPairedByName text text' c c' d

-- ---- faults

-- one of the first n of this kind in this circuit
pub record IsSpot (which : Which) (kind : Kind) (n : ℕ) (s : Spot) : Type 0 where
  pub circuit_is : s.circuit ≡ which
  pub kind_is : s.kind ≡ kind
  pub within : s.position < n

-- why n names of this kind in this circuit can't be paired with those of the other one: there is none at a position, it stands
-- at an earlier one too, or the other circuit has it nowhere
abbrev pub FailsNames : Which → Kind → ℕ → (ℕ → List ℕ) → (ℕ → List ℕ) → PairFault → Type 0
FailsNames which kind n names others (Unnamed s) = IsSpot which kind n s × (names s.position ≡ [])
FailsNames which kind n names others (Repeated s) =
    IsSpot which kind n s × ((q : ℕ) × (q < s.position) × (names q ≡ names s.position))
FailsNames which kind n names others (Unmatched s) =
    IsSpot which kind n s × ((q : ℕ) → q < n → others q ≢ names s.position)
FailsNames which kind n names others OutOfMemory = Unit {0}

-- in the first circuit or in the second one, which have one shape, and one of which has a name
pub record CannotPair (text text' : List ℕ) (c c' : Circuit) (fault : PairFault) : Type 0 where
  pub shape : HaveOneShape c c'
  pub named : IsUnnamed text c → IsUnnamed text' c' → ⊥
  pub kind : Kind
  pub fails : FailsNames First kind (count_of c kind) (name_of c text kind) (name_of c' text' kind) fault
      ⊎ FailsNames Second kind (count_of c' kind) (name_of c' text' kind) (name_of c text kind) fault

-- such names, or there was no memory
abbrev pub IsPairFault : List ℕ → List ℕ → Circuit → Circuit → PairFault → Type 0
IsPairFault text text' c c' fault = CannotPair text text' c c' fault ⊎ (fault ≡ OutOfMemory)

-- the text is of a circuit, and names nothing
pub record NamesNothing (text : List ℕ) : Type 0 where
  pub circuit : Circuit
  pub says : IsAiger text circuit
  pub none : IsUnnamed text circuit
