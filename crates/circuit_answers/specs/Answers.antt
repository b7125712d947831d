-- What answers show of circuits.
--     IsPossible gates outputs      some input makes an output true
--     AreDifferent gates outputs gates' outputs'      some input gives two circuits different outputs
--     IsPossibleJudged, IsDifferentJudged      the verdict on the input of an answer, and its text
use Rattle.std.specs.Prelude.{◌≡◌, ◌≢◌, ℕ, Bool, true, false, List, length}
use Rattle.std.specs.List.{list_any}
use Rattle.circuit_rules.specs.Circuits.{Gate, simulated}
use Rattle.circuit_rules.specs.Checks.{any_output, outputs_of}
use Rattle.circuit_text.specs.declared.circuit.Circuit as read
use Rattle.verdicts.specs.declared.verdict.Verdict.{Verdict}
use Rattle.verdicts.specs.declared.verdict.Verdict.TheVariants.{Verified, NotVerified}
use Rattle.circuit_answers.specs.Lines.{different_text, open_text, possible_text}
use Rattle.circuit_answers.specs.Simulations.{input_by, outputs_for}
use Rattle.circuit_answers.specs.declared.judged.Judged.{Judged}

-- some input makes an output true
pub record IsPossible (gates : List Gate) (outputs : List ℕ) : Type 0 where
  pub input : ℕ → Bool
  pub any : any_output (simulated input gates) outputs ≡ true

-- for some input the outputs of two circuits differ
pub record AreDifferent (gates : List Gate) (outputs : List ℕ) (gates' : List Gate) (outputs' : List ℕ) : Type 0 where
  pub input : ℕ → Bool
  pub differ : outputs_of input gates outputs ≢ outputs_of input gates' outputs'

-- ---- verdicts

-- some value is true
abbrev pub is_any : List Bool → Bool
is_any values = list_any (λ value. value) values

-- the verdict and its text: some output is true, or none is
abbrev pub IsPossibleVerdict : List Bool → List Bool → Verdict → List ℕ → Type 0
IsPossibleVerdict input outputs Verified text =
    (is_any outputs ≡ true) × (text ≡ possible_text input outputs)
IsPossibleVerdict input outputs NotVerified text = (is_any outputs ≡ false) × (text ≡ open_text)

-- the verdict and its text: the outputs of two circuits differ, or they are the same
abbrev pub IsDifferentVerdict : List Bool → List Bool → List Bool → Verdict → List ℕ → Type 0
IsDifferentVerdict input outputs others Verified text =
    (outputs ≢ others) × (text ≡ different_text input outputs others)
IsDifferentVerdict input outputs others NotVerified text = (outputs ≡ others) × (text ≡ open_text)

-- the verdict on an answer that shows nothing
pub record IsNotVerified (judged : Judged) : Type 0 where
  pub verdict : judged.verdict ≡ NotVerified
  pub text : judged.text.items ≡ open_text

-- two circuits have as many inputs, and as many outputs
pub record HaveShapes (c c' : read.Circuit) : Type 0 where
  pub inputs : c.inputs ≡ c'.inputs
  pub outputs : length c.outputs.items ≡ length c'.outputs.items

-- the verdict on a circuit, for the input by a set of literals
abbrev pub IsPossibleJudged : (ℕ → Bool) → read.Circuit → Verdict → List ℕ → Type 0
IsPossibleJudged listed c verdict text =
    let input = input_by listed c.inputs in
    IsPossibleVerdict input (outputs_for input c) verdict text

-- the verdict on two circuits of one shape, for the input by a set of literals
pub record IsDifferentJudged (listed : ℕ → Bool) (c c' : read.Circuit) (verdict : Verdict) (text : List ℕ) : Type 0 where
  pub shapes : HaveShapes c c'
  pub judged :
      let input = input_by listed c.inputs in
      IsDifferentVerdict input (outputs_for input c) (outputs_for input c') verdict text
