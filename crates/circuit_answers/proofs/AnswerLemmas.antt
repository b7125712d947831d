-- What the outputs of a simulation say, and what holds where there is a verdict.
use Rattle.std.proofs.Common.{◌≡◌, ℕ, suc, ◌<◌, ◌^◌, ◌==◌, nat_lt, Bool, true, false, List, [], ◌∷◌, ◌||◌, None, length, map, refl, ap, sym, ◌∙◌}
use mathlib.Core.Bool.{beq}
use Rattle.std.specs.Bool.{Decides}
use Rattle.std.proofs.lemmas.Bool.{eqb-true, false≢true, ltb-true}
use Rattle.sat_rules.specs.Clauses.{lit_true}
use Rattle.circuit_rules.specs.Circuits.{simulated}
use Rattle.circuit_rules.specs.Checks.{any_output}
use Rattle.circuit_text.specs.declared.circuit.Circuit as read
use Rattle.circuit_clauses.specs.Causes.{has_outputs}
use Rattle.circuit_clauses.specs.Formulas.{gates_in}
use Rattle.circuit_clauses.specs.Machines.{machine_in}
use Rattle.circuit_clauses.proofs.CauseLemmas.{past}
use Rattle.verdicts.specs.declared.verdict.Verdict.{Verdict}
use Rattle.verdicts.specs.declared.verdict.Verdict.TheVariants.{Verified, NotVerified}
use Rattle.circuit_answers.specs.Answers.{AreDifferent, HaveShapes, IsDifferentJudged, IsPossible, IsPossibleJudged, is_any}
use Rattle.circuit_answers.specs.Causes.{different_cause, possible_cause, reach_cause}
use Rattle.circuit_answers.specs.Lines.{different_text, possible_text}
use Rattle.circuit_answers.specs.Reached.{are_placed}
use Rattle.circuit_answers.specs.Simulations.{assigned, input_by, outputs_for}

-- ---- where there is no cause

pub few_inputs : (c : read.Circuit) → possible_cause c ≡ None → c.inputs < 2 ^ 28
few_inputs c h =
    let some = past (has_outputs c) _ _ h in
    ltb-true c.inputs (2 ^ 28) (past (nat_lt c.inputs (2 ^ 28)) _ _ some.1).0

pub alike : (c c' : read.Circuit) → different_cause c c' ≡ None → HaveShapes c c' × (possible_cause c ≡ None)
alike c c' h =
    let inputs = past (c.inputs == c'.inputs) _ _ h in
    let outputs = past (length c.outputs.items == length c'.outputs.items) _ _ inputs.1 in (
      record {
        inputs = eqb-true c.inputs c'.inputs inputs.0;
        outputs = eqb-true (length c.outputs.items) (length c'.outputs.items) outputs.0;
      },
      outputs.1,
    )

pub placed : (c : read.Circuit) → reach_cause c ≡ None → are_placed (suc c.inputs) (machine_in c).latches ≡ true
placed c h = (past (are_placed (suc c.inputs) (machine_in c).latches) _ _ h).0

-- ---- values

-- two values are the same
pub values_decides : (x y : Bool) → Decides (beq x y) (x ≡ y)
values_decides true true = (λ e. refl, λ e. refl)
values_decides true false = (λ e. sym e, λ e. sym e)
values_decides false true = (λ e. e, λ e. e)
values_decides false false = (λ e. refl, λ e. refl)

-- some output is true
is_any-map : (a : ℕ → Bool) (os : List ℕ) → is_any (map (lit_true a) os) ≡ any_output a os
is_any-map a [] = refl
is_any-map a (o ∷ os) = ap (λ b. lit_true a o || b) (is_any-map a os)

pub possible_shown : (listed : ℕ → Bool) (c : read.Circuit) (v : Verdict) (text : List ℕ) → IsPossibleJudged listed c v text → v ≡ Verified →
    IsPossible (gates_in c) c.outputs.items
possible_shown listed c Verified text h e = record {
  input = assigned (input_by listed c.inputs);
  any = sym (is_any-map (simulated (assigned (input_by listed c.inputs)) (gates_in c)) c.outputs.items) ∙ h.0;
}
possible_shown listed c NotVerified text h e = absurd cc

pub different_shown : (listed : ℕ → Bool) (c c' : read.Circuit) (v : Verdict) (text : List ℕ) → IsDifferentJudged listed c c' v text → v ≡ Verified →
    AreDifferent (gates_in c) c.outputs.items (gates_in c') c'.outputs.items
different_shown listed c c' Verified text h e = record {
  input = assigned (input_by listed c.inputs);
  differ = h.judged.0;
}
different_shown listed c c' NotVerified text h e = absurd cc

-- ---- what was computed, as the definitions say it

module _ (listed : ℕ → Bool) (c : read.Circuit) (input outputs : List Bool) (e : input ≡ input_by listed c.inputs) (is : outputs ≡ outputs_for input c) where
  outputs_are : outputs ≡ outputs_for (input_by listed c.inputs) c
  outputs_are = is ∙ ap (λ i. outputs_for i c) e

  pub possible_judged : (text : List ℕ) → is_any outputs ≡ true → text ≡ possible_text input outputs → IsPossibleJudged listed c Verified text
  possible_judged text any t =
      (sym (ap is_any outputs_are) ∙ any, t ∙ ap (λ i. possible_text i outputs) e ∙ ap (possible_text (input_by listed c.inputs)) outputs_are)

  module _ (c' : read.Circuit) (others : List Bool) (other : others ≡ outputs_for input c') where
    others_are : others ≡ outputs_for (input_by listed c.inputs) c'
    others_are = other ∙ ap (λ i. outputs_for i c') e

    pub different_judged : (text : List ℕ) (same : Bool) → HaveShapes c c' → (outputs ≡ others → same ≡ true) → same ≡ false → text ≡ different_text input outputs others →
        IsDifferentJudged listed c c' Verified text
    different_judged text same shapes if_same apart t = record {
      shapes = shapes;
      judged = (
        λ equal. false≢true (sym apart ∙ if_same (outputs_are ∙ equal ∙ sym others_are)),
        t ∙ ap (λ i. different_text i outputs others) e ∙ ap (λ os. different_text (input_by listed c.inputs) os others) outputs_are
            ∙ ap (different_text (input_by listed c.inputs) (outputs_for (input_by listed c.inputs) c)) others_are,
      );
    }
