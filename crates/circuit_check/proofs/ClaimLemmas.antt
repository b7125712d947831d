-- What a refuted formula says of the texts of its circuits.
use Rattle.std.proofs.Common.{◌≡◌, ℕ, ◌+◌, ◌*◌, List, ◌++◌, Option, Some, Result, Ok, Err, ap, sym, ◌∙◌}
use Rattle.std.specs.Prelude.{IfOk, OnOk}
use Rattle.refutation_rules.specs.Cubes.{IsRefuted}
use Rattle.circuit_rules.specs.Checks.{never_clauses, same_clauses}
use Rattle.circuit_rules.specs.Circuits.{Gate}
use Rattle.circuit_rules.specs.Safety.{IsSafe, bad_clauses, first_clauses, stay_clauses}
use Rattle.circuit_rules.proofs.Simulation.{never_is_shown}
use Rattle.circuit_rules.proofs.Joined.{same_is_shown}
use Rattle.circuit_rules.proofs.Invariants.{safe_is_shown}
use Rattle.circuit_text.specs.declared.circuit.Circuit as read
use Rattle.circuit_text.specs.Circuits.{Circuit, circuit_of}
use Rattle.circuit_names.specs.Pairs.{IsPaired, by_name, unlike, unnamed}
use Rattle.circuit_names.specs.declared.pairing.Pairing.{Pairing}
use Rattle.circuit_names.specs.declared.pairing.Pairing.TheVariants.{ByName, ByPosition}
use Rattle.circuit_text.specs.Reading.{IsRead}
use Rattle.circuit_text.specs.Written.{IsAiger}
use Rattle.circuit_clauses.specs.declared.induction.Induction.{Induction}
use Rattle.circuit_clauses.specs.declared.induction.Part.TheVariants.{Initial, Step, Bad}
use Rattle.circuit_clauses.specs.Formulas.{gates_in}
use Rattle.circuit_clauses.specs.Machines.{IsInduction, machine_in, more_gates, part_clauses, size_of, states_in}
use Rattle.verdicts.specs.declared.verdict.Verdict.{Verdict}
use Rattle.verdicts.specs.declared.verdict.Verdict.TheVariants.{Verified}
use Rattle.circuit_check.specs.declared.fault.CircuitFault.{CircuitFault}
use Rattle.circuit_check.specs.Claims.{HaveWritten, IsAppended, IsInductionText, IsNeverFormula, IsNeverText, IsSafeText, IsSameFormula, IsSameText, RefutesAll}

pub said_by : (known : Option (List ℕ)) (said : List ℕ) (c : read.Circuit) → known ≡ Some said → IsRead known c → IsAiger said (circuit_of c)
said_by known said c e h = rw e at h

refuted_as : (formula cs : List (List ℕ)) → formula ≡ cs → IsRefuted formula → IsRefuted cs
refuted_as formula cs e h = rw e at h

pub never_text : (known : Option (List ℕ)) (said : List ℕ) (formula : List (List ℕ)) → known ≡ Some said → IsNeverFormula known formula → IsRefuted formula → IsNeverText said
never_text known said formula e h refuted =
    let c = h.circuit in
    record {
      circuit = circuit_of c;
      says = said_by known said c e h.says;
      shape = h.shape;
      never = never_is_shown c.inputs (gates_in c) c.outputs.items h.has.ordered (refuted_as formula (never_clauses (gates_in c) c.outputs.items) h.has.is refuted);
    }

-- the circuit that was arranged has the inputs that it had
pub paired_inputs : (pairing : Pairing) (text text' : List ℕ) (c c' d : Circuit) → IsPaired pairing text text' c c' d → d.inputs ≡ c'.inputs
paired_inputs ByPosition text text' c c' d h = ap (λ (x : Circuit). x.inputs) h
paired_inputs ByName text text' c c' d (unnamed none none' e) = ap (λ (x : Circuit). x.inputs) e
paired_inputs ByName text text' c c' d (unlike other e) = ap (λ (x : Circuit). x.inputs) e
paired_inputs ByName text text' c c' d (by_name inputs outputs are e) = ap (λ (x : Circuit). x.inputs) e

pub same_text : (pairing : Pairing) (text text' : List ℕ) (formula : List (List ℕ)) → IsSameFormula pairing text text' formula → IsRefuted formula → IsSameText pairing text text'
same_text pairing text text' formula h refuted =
    let c = h.circuit in let d = h.second in let c' = h.is.circuit in
    record {
      circuit = circuit_of c;
      circuit' = circuit_of c';
      says = h.gates.says;
      says' = h.is.gates.says;
      shape = h.gates.shape;
      shape' = h.is.gates.shape;
      inputs = h.has.inputs ∙ paired_inputs pairing text text' (circuit_of c) (circuit_of c') (circuit_of d) h.is.pairs;
      paired = circuit_of d;
      pairs = h.is.pairs;
      same =
          same_is_shown c.inputs h.has.d h.has.v (gates_in c) c.outputs.items (gates_in d) d.outputs.items h.has.places
          (refuted_as formula (same_clauses c.inputs h.has.d h.has.v (gates_in c) c.outputs.items (gates_in d) d.outputs.items) h.has.is refuted);
    }

-- the formulas, as the law has them
module _ (c c' : read.Circuit) (i : Induction) (h : IsInduction c c' i) where
  abbrev all : List Gate
  all = gates_in c ++ more_gates c c'

  first_is : part_clauses i Initial ≡ first_clauses all (machine_in c) i.invariant
  first_is = ap (λ gs. first_clauses gs (machine_in i.machine) i.invariant) h.gates ∙ ap (λ m. first_clauses all (machine_in m) i.invariant) h.machine

  stay_is : part_clauses i Step ≡ stay_clauses i.last all (machine_in c) i.invariant
  stay_is = ap (λ gs. stay_clauses i.last gs (machine_in i.machine) i.invariant) h.gates ∙ ap (λ m. stay_clauses i.last all (machine_in m) i.invariant) h.machine

  bad_is : part_clauses i Bad ≡ bad_clauses all (machine_in c) i.invariant
  bad_is = ap (λ gs. bad_clauses gs (machine_in i.machine) i.invariant) h.gates ∙ ap (λ m. bad_clauses all (machine_in m) i.invariant) h.machine

  safe_machine : RefutesAll i → IsSafe (machine_in c)
  safe_machine refuted =
      safe_is_shown (states_in c) (states_in c + 1 + size_of c) i.last (2 * i.last + 1) (machine_in c) (more_gates c c') i.invariant h.places
      (refuted_as (part_clauses i Initial) (first_clauses all (machine_in c) i.invariant) first_is refuted.initial)
      (refuted_as (part_clauses i Step) (stay_clauses i.last all (machine_in c) i.invariant) stay_is refuted.step)
      (refuted_as (part_clauses i Bad) (bad_clauses all (machine_in c) i.invariant) bad_is refuted.bad)

pub safe_text : (known known' : Option (List ℕ)) (said : List ℕ) (i : Induction) → known ≡ Some said → IsInductionText known known' i → RefutesAll i → IsSafeText said
safe_text known known' said i e h refuted =
    let c = h.circuit in
    record {
      circuit = circuit_of c;
      says = said_by known said c e h.says;
      safe = safe_machine c h.circuit' i h.is refuted;
    }

-- all three formulas were written, where the last one was
pub all_written : (r : Result (Unit {0}) CircuitFault) (known known' a a' b b' d d' : Option (List ℕ)) (i : Induction) → IsInductionText known known' i →
    IsAppended a a' (part_clauses i Initial) → IsAppended b b' (part_clauses i Step) → OnOk r (IsAppended d d' (part_clauses i Bad)) →
    OnOk r (HaveWritten known known' a a' b b' d d')
all_written (Ok u) known known' a a' b b' d d' i h initial step bad = record { induction = i; is = h; initial_is = initial; step_is = step; bad_is = bad }
all_written (Err e) known known' a a' b b' d d' i h initial step bad = tt

-- the verdict that was written is the one that was found
pub written_is : (r : Result Verdict CircuitFault) (v : Verdict) → IfOk r (λ w. w ≡ v) → r ≡ Ok Verified → v ≡ Verified
written_is r v h e = let w : Verified ≡ v = rw e at h in sym w
