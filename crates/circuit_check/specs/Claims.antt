-- What a verdict on circuits claims of their texts.
--     IsNeverText text      the text says a circuit that is never true
--     IsSameText pairing text text'      both texts say circuits, which are the same
--     IsSafeText text      the text says a machine that is safe
--     IsPossibleText text      the text says a circuit, and some input makes an output true
--     AreDifferentText pairing text text'      both texts say circuits, which differ for some input
--     IsReachedText text      the text says a machine that is not safe
use Rattle.std.specs.Prelude.{◌≡◌, ℕ, true, List, [], Option, Some, None, length}
use Rattle.std.specs.Io.KnownBytes.{Appends}
use Rattle.sat_output.specs.FormulaTexts.{formula_text}
use Rattle.refutation_rules.specs.Cubes.{IsRefuted}
use Rattle.circuit_rules.specs.Checks.{AreSame, IsNever}
use Rattle.circuit_rules.specs.Safety.{IsSafe}
use Rattle.circuit_text.specs.declared.circuit.Circuit as read
use Rattle.circuit_text.specs.Circuits.{Circuit, circuit_of}
use Rattle.circuit_text.specs.Reading.{IsRead}
use Rattle.circuit_text.specs.Written.{IsAiger}
use Rattle.circuit_names.specs.Pairs.{IsPaired}
use Rattle.circuit_names.specs.declared.pairing.Pairing.{Pairing}
use Rattle.circuit_answers.specs.Answers.{AreDifferent, IsPossible}
use Rattle.circuit_answers.specs.Reached.{IsReached}
use Rattle.circuit_clauses.specs.declared.induction.Induction.{Induction}
use Rattle.circuit_clauses.specs.declared.induction.Part.TheVariants.{Initial, Step, Bad}
use Rattle.circuit_clauses.specs.Causes.{fits_part, never_cause, safe_cause, same_cause}
use Rattle.circuit_clauses.specs.Formulas.{HasNever, HasSame}
use Rattle.circuit_clauses.specs.Machines.{IsInduction, machine_of, part_clauses}

-- a circuit of gates and outputs alone
pub record IsCombinational (c : Circuit) : Type 0 where
  pub latches : c.latches ≡ []
  pub bad : c.bad ≡ []
  pub constraints : c.constraints ≡ []

-- the text says such a circuit, no output of which is true, whatever the input
pub record IsNeverText (text : List ℕ) : Type 0 where
  pub circuit : Circuit
  pub says : IsAiger text circuit
  pub shape : IsCombinational circuit
  pub never : IsNever circuit.gates circuit.outputs

-- the texts say two such circuits with as many inputs; where the inputs and outputs of the second one are in the order of those of
-- the first one with which they are paired, the outputs are the same, whatever the input
pub record IsSameText (pairing : Pairing) (text text' : List ℕ) : Type 0 where
  pub circuit : Circuit
  pub circuit' : Circuit
  pub says : IsAiger text circuit
  pub says' : IsAiger text' circuit'
  pub shape : IsCombinational circuit
  pub shape' : IsCombinational circuit'
  pub inputs : circuit.inputs ≡ circuit'.inputs
  pub paired : Circuit
  pub pairs : IsPaired pairing text text' circuit circuit' paired
  pub same : AreSame circuit.gates circuit.outputs paired.gates paired.outputs

-- the text says a machine, no run of which makes a bad output true; all outputs are bad, where none is named
pub record IsSafeText (text : List ℕ) : Type 0 where
  pub circuit : Circuit
  pub says : IsAiger text circuit
  pub safe : IsSafe (machine_of circuit)

-- the text says a circuit of gates and outputs alone, and some input makes an output true
pub record IsPossibleText (text : List ℕ) : Type 0 where
  pub circuit : Circuit
  pub says : IsAiger text circuit
  pub shape : IsCombinational circuit
  pub possible : IsPossible circuit.gates circuit.outputs

-- the texts say two such circuits with as many inputs and outputs, and for some input their outputs, so paired, differ
pub record AreDifferentText (pairing : Pairing) (text text' : List ℕ) : Type 0 where
  pub circuit : Circuit
  pub circuit' : Circuit
  pub says : IsAiger text circuit
  pub says' : IsAiger text' circuit'
  pub shape : IsCombinational circuit
  pub shape' : IsCombinational circuit'
  pub inputs : circuit.inputs ≡ circuit'.inputs
  pub paired : Circuit
  pub pairs : IsPaired pairing text text' circuit circuit' paired
  pub outputs : length circuit.outputs ≡ length paired.outputs
  pub different : AreDifferent circuit.gates circuit.outputs paired.gates paired.outputs

-- the text says a machine, some run of which makes a bad output true; all outputs are bad, where none is named
pub record IsReachedText (text : List ℕ) : Type 0 where
  pub circuit : Circuit
  pub says : IsAiger text circuit
  pub reached : IsReached (machine_of circuit)

-- ---- formulas

-- the text says this circuit, which has gates and outputs alone
pub record IsGates (known : Option (List ℕ)) (c : read.Circuit) : Type 0 where
  pub says : IsRead known c
  pub shape : IsCombinational (circuit_of c)

-- the second text says such a circuit, and this is it in the order of the first one
pub record IsSecond (pairing : Pairing) (text text' : List ℕ) (c d : read.Circuit) : Type 0 where
  pub circuit : read.Circuit
  pub gates : IsGates (Some text') circuit
  pub pairs : IsPaired pairing text text' (circuit_of c) (circuit_of circuit) (circuit_of d)

-- the formula of a text that says such a circuit
pub record IsNeverFormula (known : Option (List ℕ)) (formula : List (List ℕ)) : Type 0 where
  pub circuit : read.Circuit
  pub says : IsRead known circuit
  pub shape : IsCombinational (circuit_of circuit)
  pub has : HasNever circuit formula
  pub none : never_cause circuit ≡ None

-- the formula of two texts that say such circuits
pub record IsSameFormula (pairing : Pairing) (text text' : List ℕ) (formula : List (List ℕ)) : Type 0 where
  pub circuit : read.Circuit
  pub second : read.Circuit
  pub gates : IsGates (Some text) circuit
  pub is : IsSecond pairing text text' circuit second
  pub has : HasSame circuit second formula
  pub none : same_cause circuit second ≡ None

-- a text says a machine, and another one an invariant; each part has a formula
pub record IsInductionText (known known' : Option (List ℕ)) (induction : Induction) : Type 0 where
  pub circuit : read.Circuit
  pub circuit' : read.Circuit
  pub says : IsRead known circuit
  pub says' : IsRead known' circuit'
  pub is : IsInduction circuit circuit' induction
  pub none : safe_cause circuit circuit' ≡ None
  pub fits : fits_part induction Step ≡ true

-- all three formulas are refuted
pub record RefutesAll (induction : Induction) : Type 0 where
  pub initial : IsRefuted (part_clauses induction Initial)
  pub step : IsRefuted (part_clauses induction Step)
  pub bad : IsRefuted (part_clauses induction Bad)

-- a formula was written, as DIMACS text
abbrev pub IsAppended : Option (List ℕ) → Option (List ℕ) → List (List ℕ) → Type 0
IsAppended old new formula = Appends old new (formula_text formula)

-- such a formula was written, as DIMACS text
pub record HasWritten (IsFormula : List (List ℕ) → Type 0) (old new : Option (List ℕ)) : Type 0 where
  pub formula : List (List ℕ)
  pub is : IsFormula formula
  pub appends : Appends old new (formula_text formula)

-- the three formulas of a machine and an invariant were written, one to each output
pub record HaveWritten (known known' : Option (List ℕ)) (initial initial' step step' bad bad' : Option (List ℕ)) :
    Type 0 where
  pub induction : Induction
  pub is : IsInductionText known known' induction
  pub initial_is : IsAppended initial initial' (part_clauses induction Initial)
  pub step_is : IsAppended step step' (part_clauses induction Step)
  pub bad_is : IsAppended bad bad' (part_clauses induction Bad)
