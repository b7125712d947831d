-- Circuits that are read, and why they are not.
--     IsGates known c      the text says this circuit, which has gates and outputs alone
--     OfGates known P, OfRead known P      this holds of that circuit;  of the circuit that the text says
--     IsSecond pairing text text' c d, OfPaired pairing text text' P      the second circuit, in the order of the first one;  this holds of both
--     FailsGates, FailsRead, FailsBoth      why one circuit, two machines, two circuits are not read
--     FailsNever, FailsSame, FailsSafe      why no formula is made of them
use Rattle.std.specs.Prelude.{◌≡◌, ◌⊎◌, ℕ, List, Option, Some}
use Rattle.circuit_text.specs.declared.circuit.Circuit as read
use Rattle.circuit_text.specs.Circuits.{circuit_of}
use Rattle.circuit_text.specs.Faults.{FailsBy}
use Rattle.circuit_text.specs.Reading.{IsRead}
use Rattle.circuit_clauses.specs.Causes.{IsCause, never_cause, safe_cause, same_cause}
use Rattle.circuit_names.specs.Pairs.{IsPairFault}
use Rattle.circuit_names.specs.declared.pairing.Pairing.{Pairing}
use Rattle.circuit_names.specs.declared.pairing.Pairing.TheVariants.{ByName}
use Rattle.circuit_check.specs.Claims.{IsCombinational, IsGates, IsSecond}
use Rattle.circuit_names.specs.declared.fault.PairFault.{PairFault}
use Rattle.circuit_check.specs.declared.fault.CircuitFault.{CircuitFault}
use Rattle.circuit_check.specs.declared.fault.CircuitFault.TheVariants.{Unread, OtherUnread, Sequential, Unpaired, NoFormula}

-- the text says a circuit with latches, bad state properties or invariant constraints
pub record IsSequential (known : Option (List ℕ)) : Type 0 where
  pub circuit : read.Circuit
  pub says : IsRead known circuit
  pub shape : IsCombinational (circuit_of circuit) → ⊥

-- this holds of the circuit that the text says, which has gates and outputs alone
pub record OfGates (known : Option (List ℕ)) (P : read.Circuit → Type 0) : Type 0 where
  pub circuit : read.Circuit
  pub gates : IsGates known circuit
  pub holds : P circuit

-- this holds of two such circuits, the second one in the order of the first one
pub record OfPaired (pairing : Pairing) (text text' : List ℕ) (P : read.Circuit → read.Circuit → Type 0) : Type 0 where
  pub circuit : read.Circuit
  pub second : read.Circuit
  pub gates : IsGates (Some text) circuit
  pub is : IsSecond pairing text text' circuit second
  pub holds : P circuit second

-- this holds of the circuit that the text says
pub record OfRead (known : Option (List ℕ)) (P : read.Circuit → Type 0) : Type 0 where
  pub circuit : read.Circuit
  pub says : IsRead known circuit
  pub holds : P circuit

-- the text says a circuit
abbrev pub IsReadable : Option (List ℕ) → Type 0
IsReadable known = (c : read.Circuit) × IsRead known c

-- why no circuit of gates and outputs alone is read
abbrev pub FailsGates : Option (List ℕ) → CircuitFault → Type 0
FailsGates known (Unread fault) = FailsBy known fault
FailsGates known Sequential = IsSequential known
FailsGates known fault = ⊥

-- why two circuits are not read, the first one first
abbrev pub FailsRead : Option (List ℕ) → Option (List ℕ) → CircuitFault → Type 0
FailsRead known known' (Unread fault) = FailsBy known fault
FailsRead known known' (OtherUnread fault) = IsReadable known × FailsBy known' fault
FailsRead known known' fault = ⊥

-- why two circuits of gates and outputs alone are not read; both are read before their shapes are looked at
abbrev pub FailsBoth : Option (List ℕ) → Option (List ℕ) → CircuitFault → Type 0
FailsBoth known known' Sequential = IsReadable known × IsReadable known' × (IsSequential known ⊎ IsSequential known')
FailsBoth known known' fault = FailsRead known known' fault

-- the names in two such texts can't be paired
pub record AreUnpaired (pairing : Pairing) (text text' : List ℕ) (fault : PairFault) : Type 0 where
  pub asked : pairing ≡ ByName
  pub circuit : read.Circuit
  pub circuit' : read.Circuit
  pub gates : IsGates (Some text) circuit
  pub gates' : IsGates (Some text') circuit'
  pub names : IsPairFault text text' (circuit_of circuit) (circuit_of circuit') fault

-- why two circuits are not read and paired
abbrev pub FailsPaired : Pairing → List ℕ → List ℕ → CircuitFault → Type 0
FailsPaired pairing text text' (Unpaired fault) = AreUnpaired pairing text text' fault
FailsPaired pairing text text' fault = FailsBoth (Some text) (Some text') fault

-- ---- formulas

-- why there is no formula of one circuit: it is not read, or there is a cause, or memory ran out
abbrev pub FailsNever : Option (List ℕ) → CircuitFault → Type 0
FailsNever known (NoFormula fault) = OfGates known (λ c. IsCause (never_cause c) fault)
FailsNever known fault = FailsGates known fault

-- of two circuits
abbrev pub FailsSame : Pairing → List ℕ → List ℕ → CircuitFault → Type 0
FailsSame pairing text text' (NoFormula fault) = OfPaired pairing text text' (λ c d. IsCause (same_cause c d) fault)
FailsSame pairing text text' fault = FailsPaired pairing text text' fault

-- of a machine and an invariant
abbrev pub FailsSafe : Option (List ℕ) → Option (List ℕ) → CircuitFault → Type 0
FailsSafe known known' (NoFormula fault) = OfRead known (λ c. OfRead known' (λ c'. IsCause (safe_cause c c') fault))
FailsSafe known known' fault = FailsRead known known' fault
