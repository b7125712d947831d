-- What a solver's answer says of the texts of circuits, and why there is no verdict on one.
use Rattle.std.proofs.Common.{◌≡◌, ℕ, Bool, List, Option, Some, Err, subst, ◌∙◌}
use Rattle.std.specs.Io.KnownBytes.{Appends}
use Rattle.whole_writes.specs.Beginnings.{AppendsBeginning}
use mathlib.Core.Path.{fun_ext}
use Rattle.answer_text.specs.declared.literals.Literals.{Literals}
use Rattle.answer_text.specs.Literals.{has_lit, listed}
use Rattle.answer_text.specs.Reading.{ListsThe}
use Rattle.circuit_text.specs.declared.circuit.Circuit as read
use Rattle.circuit_text.specs.Circuits.{circuit_of}
use Rattle.circuit_names.specs.declared.pairing.Pairing.{Pairing}
use Rattle.circuit_answers.specs.Answers.{IsDifferentJudged, IsPossibleJudged}
use Rattle.circuit_answers.proofs.AnswerLemmas.{different_shown, possible_shown}
use Rattle.verdicts.specs.declared.verdict.Verdict.{Verdict}
use Rattle.verdicts.specs.declared.verdict.Verdict.TheVariants.{Verified}
use Rattle.circuit_check.specs.Answered.{BeginsDifferent, BeginsPossible, FailsDifferent, FailsPossible, OfDifferent, OfLits, OfPossible, WritesDifferent, WritesPossible}
use Rattle.circuit_check.specs.Claims.{AreDifferentText, IsGates, IsPossibleText, IsSecond}
use Rattle.circuit_check.specs.Reads.{FailsGates, FailsPaired}
use Rattle.circuit_check.specs.Runs.{IsUnwritten}
use Rattle.circuit_check.specs.declared.fault.CircuitFault.{CircuitFault}
use Rattle.circuit_check.specs.declared.fault.CircuitFault.TheVariants.{Unread, OtherUnread, Sequential, Unpaired, NoFormula, Answer, Proof, InitialProof, StepProof, BadProof, Formula, Write}
use Rattle.circuit_check.proofs.ClaimLemmas.{paired_inputs, said_by}

-- what was found by the literals that were read
pub of_lits : (answer : Option (List ℕ)) (table : Literals) → ListsThe answer table → (P : (ℕ → Bool) → Type 0) → P (has_lit table) → OfLits answer P
of_lits answer table r P h = record { lits = r.lits; lists = r.said; apart = r.apart; holds = subst P (fun_ext r.has) h }

pub possible_by : (known answer : Option (List ℕ)) (c : read.Circuit) (table : Literals) (P : read.Circuit → (ℕ → Bool) → Type 0) → IsGates known c → ListsThe answer table →
    P c (has_lit table) → OfPossible known answer P
possible_by known answer c table P gates r h = record { circuit = c; gates = gates; holds = of_lits answer table r (P c) h }

pub different_by : (pairing : Pairing) (text text' : List ℕ) (answer : Option (List ℕ)) (c d : read.Circuit) (table : Literals) (P : read.Circuit → read.Circuit → (ℕ → Bool) → Type 0) →
    IsGates (Some text) c → IsSecond pairing text text' c d → ListsThe answer table → P c d (has_lit table) → OfDifferent pairing text text' answer P
different_by pairing text text' answer c d table P gates second r h =
    record { circuit = c; second = d; gates = gates; is = second; holds = of_lits answer table r (P c d) h }

-- ---- what was written

module _ (known answer : Option (List ℕ)) (c : read.Circuit) (table : Literals) (v : Verdict) (text bytes : List ℕ) (old new : Option (List ℕ)) (gates : IsGates known c)
    (r : ListsThe answer table) (e : bytes ≡ text) where
  pub possible_written : IsPossibleJudged (has_lit table) c v text → Appends old new bytes → OfPossible known answer (λ d s. WritesPossible s d v old new)
  possible_written judged h =
      possible_by known answer c table (λ d s. WritesPossible s d v old new) gates r
      (record { text = text; judged = judged; appends = subst (λ (b : List ℕ). Appends old new b) e h })

  pub possible_begun : IsPossibleJudged (has_lit table) c v text → AppendsBeginning old new bytes → OfPossible known answer (λ d s. BeginsPossible s d old new)
  possible_begun judged h =
      possible_by known answer c table (λ d s. BeginsPossible s d old new) gates r
      (record { verdict = v; text = text; judged = judged; begins = subst (λ (b : List ℕ). AppendsBeginning old new b) e h })

module _ (pairing : Pairing) (said said' : List ℕ) (answer : Option (List ℕ)) (c d : read.Circuit) (table : Literals) (v : Verdict) (text bytes : List ℕ) (old new : Option (List ℕ))
    (gates : IsGates (Some said) c) (second : IsSecond pairing said said' c d) (r : ListsThe answer table) (e : bytes ≡ text) where
  pub different_written : IsDifferentJudged (has_lit table) c d v text → Appends old new bytes →
      OfDifferent pairing said said' answer (λ c d s. WritesDifferent s c d v old new)
  different_written judged h =
      different_by pairing said said' answer c d table (λ c d s. WritesDifferent s c d v old new) gates second r
      (record { text = text; judged = judged; appends = subst (λ (b : List ℕ). Appends old new b) e h })

  pub different_begun : IsDifferentJudged (has_lit table) c d v text → AppendsBeginning old new bytes →
      OfDifferent pairing said said' answer (λ c d s. BeginsDifferent s c d old new)
  different_begun judged h =
      different_by pairing said said' answer c d table (λ c d s. BeginsDifferent s c d old new) gates second r
      (record { verdict = v; text = text; judged = judged; begins = subst (λ (b : List ℕ). AppendsBeginning old new b) e h })

-- ---- faults of circuits

pub gates_fail : (known answer : Option (List ℕ)) (fault : CircuitFault) → FailsGates known fault → FailsPossible known answer fault × (IsUnwritten (Err fault) → ⊥)
gates_fail known answer (Unread f) h = (h, λ u. u)
gates_fail known answer (OtherUnread f) h = absurd h
gates_fail known answer Sequential h = (h, λ u. u)
gates_fail known answer (NoFormula f) h = absurd h
gates_fail known answer (Unpaired f) h = absurd h
gates_fail known answer (Answer f) h = absurd h
gates_fail known answer (Proof f) h = absurd h
gates_fail known answer (InitialProof f) h = absurd h
gates_fail known answer (StepProof f) h = absurd h
gates_fail known answer (BadProof f) h = absurd h
gates_fail known answer (Formula f) h = absurd h
gates_fail known answer (Write f) h = absurd h

pub circuits_fail : (pairing : Pairing) (text text' : List ℕ) (answer : Option (List ℕ)) (fault : CircuitFault) → FailsPaired pairing text text' fault →
    FailsDifferent pairing text text' answer fault × (IsUnwritten (Err fault) → ⊥)
circuits_fail pairing text text' answer (Unread f) h = (h, λ u. u)
circuits_fail pairing text text' answer (OtherUnread f) h = (h, λ u. u)
circuits_fail pairing text text' answer Sequential h = (h, λ u. u)
circuits_fail pairing text text' answer (NoFormula f) h = absurd h
circuits_fail pairing text text' answer (Unpaired f) h = (h, λ u. u)
circuits_fail pairing text text' answer (Answer f) h = absurd h
circuits_fail pairing text text' answer (Proof f) h = absurd h
circuits_fail pairing text text' answer (InitialProof f) h = absurd h
circuits_fail pairing text text' answer (StepProof f) h = absurd h
circuits_fail pairing text text' answer (BadProof f) h = absurd h
circuits_fail pairing text text' answer (Formula f) h = absurd h
circuits_fail pairing text text' answer (Write f) h = absurd h

-- ---- verdicts

pub possible_text : (known answer : Option (List ℕ)) (said : List ℕ) (v : Verdict) (old new : Option (List ℕ)) → known ≡ Some said → v ≡ Verified →
    OfPossible known answer (λ c lits. WritesPossible lits c v old new) → IsPossibleText said
possible_text known answer said v old new e is h =
    let c = h.circuit in
    let found = h.holds.holds in
    record {
      circuit = circuit_of c;
      says = said_by known said c e h.gates.says;
      shape = h.gates.shape;
      possible = possible_shown (listed h.holds.lits) c v found.text found.judged is;
    }

pub different_text : (pairing : Pairing) (text text' : List ℕ) (answer : Option (List ℕ)) (v : Verdict) (old new : Option (List ℕ)) →
    v ≡ Verified → OfDifferent pairing text text' answer (λ c d lits. WritesDifferent lits c d v old new) → AreDifferentText pairing text text'
different_text pairing text text' answer v old new is h =
    let c = h.circuit in let d = h.second in let c' = h.is.circuit in
    let found = h.holds.holds in
    record {
      circuit = circuit_of c;
      circuit' = circuit_of c';
      says = h.gates.says;
      says' = h.is.gates.says;
      shape = h.gates.shape;
      shape' = h.is.gates.shape;
      inputs = found.judged.shapes.inputs ∙ paired_inputs pairing text text' (circuit_of c) (circuit_of c') (circuit_of d) h.is.pairs;
      paired = circuit_of d;
      pairs = h.is.pairs;
      outputs = found.judged.shapes.outputs;
      different = different_shown (listed h.holds.lits) c d v found.text found.judged is;
    }
