-- The text form: inputs, latches and gates, which begin with their own literals.
use Rattle.std.proofs.Common.{◌≡◌, ℕ, zero, suc, ◌+◌, ◌-◌, ◌*◌, ◌^◌, ◌<◌, ◌≤◌, true, false, List, [], ◌∷◌, ◌++◌, length, Some, refl, ap, ◌∙◌, append_assoc, arith}
use Rattle.std.specs.Prelude.{None, ◌==◌, codes}
use Rattle.std.proofs.lemmas.Bool.{lt-ltb}
use Rattle.std.proofs.lemmas.Bool.Decides.{nat_tests}
use Rattle.sat_formula.specs.Bytes.{is_digit}
use Rattle.sat_formula.specs.Outcome as dimacs
use Rattle.circuit_rules.specs.Circuits as rules
use Rattle.circuit_text.specs.declared.header.Header.{Header}
use Rattle.circuit_text.specs.declared.spot.Place.TheVariants.{First, LineStart, Own, Second}
use Rattle.circuit_text.specs.automaton.Aigers.{Says, outcome_at}
use Rattle.circuit_text.specs.Circuits.{Circuit}
use Rattle.circuit_text.specs.automaton.Headers.{place_at}
use Rattle.circuit_text.specs.automaton.Places.{after, in_first, in_own, in_second, location, own_said}
use Rattle.circuit_text.specs.Written.{Each, GateLine, InputLines, Is, IsSized, Number, OwnLatchLine, Rest, TextForm, Then, maximum}
use Rattle.circuit_text.specs.declared.header.Form.TheVariants as forms
use Rattle.circuit_text.specs.declared.spot.Own as own_kinds
use Rattle.circuit_text.specs.declared.spot.Own.TheVariants as owns
use Rattle.circuit_text.specs.automaton.Aigers.{outcome_of}
use Rattle.circuit_text.specs.automaton.Items.{no_circuit}
use Rattle.circuit_text.specs.automaton.Headers.{all_lines, place_of}
use Rattle.circuit_text.proofs.WrittenHeaders.{header_of, header_read_on, not_le, opened, text_begins}
use Rattle.circuit_text.proofs.WrittenItems.{add_all, add_gate, add_latch, gate_is, item_at, latch_line_on, lit_ok, next_is, section_read, var_ok}
use Rattle.circuit_text.proofs.WrittenRests.{rest_read}
use Rattle.circuit_text.proofs.WrittenWhole.{all_added, gate_here, latch_here, with_lit_lines, lit_lines_read, not_lt, rest_here}
use Rattle.circuit_text.proofs.WrittenNumbers.{IsDigitPlace, at, digits_read, number_saturated, onward}

pub own_place : (own : own_kinds.Own) (v : ℕ) → IsDigitPlace (λ w. Own own v w) (λ s d b. in_own s own v d b)
unfolding after
own_place own v = record { byte = λ h line item w b. refl; more = λ h line item w n b. refl; missing = λ s b. refl; within = λ w. refl }

pub first_place : (v : ℕ) → IsDigitPlace (λ w. First v w) (λ s d b. in_first s v d b)
unfolding after
first_place v = record { byte = λ h line item w b. refl; more = λ h line item w n b. refl; missing = λ s b. refl; within = λ w. refl }

pub second_place : (v left : ℕ) → IsDigitPlace (λ w. Second v left w) (λ s d b. in_second s v left d b)
unfolding after
second_place v left = record { byte = λ h line item w b. refl; more = λ h line item w n b. refl; missing = λ s b. refl; within = λ w. refl }

itself : (n : ℕ) → (n == n) ≡ true
itself n = grind (arith, nat_tests)

module _ (c r : Circuit) (h : Header) (few : h.maximum < 2 ^ 28) (line item : ℕ) (low : item < 2 ^ 32) where
  -- an own literal
  own_on : (own : own_kinds.Own) (v b : ℕ) (ds z : List ℕ) → v ≤ h.maximum → is_digit b ≡ false → Number (2 * v) ds →
      outcome_at c (at h line item (Own own v None)) (ds ++ b ∷ z) ≡ onward c (location (at h line item (Own own v (Some (2 * v))))) (own_said (at h line item (Own own v (Some (2 * v)))) own v b) z
  own_on own v b ds z le other is =
      digits_read (λ w. Own own v w) (λ s d x. in_own s own v d x) (own_place own v) c h line item None (2 * v) ds b z is.digits other (number_saturated (2 * v) ds is (omega arith))
      ∙ rw (var_ok h v le few, itself (2 * v)) refl

  pub input_on : (v : ℕ) (text more : List ℕ) → v ≤ h.maximum → place_at h item ≡ Own owns.Input v None → Then (Number (2 * v)) (Is (10 ∷ [])) text →
      ((line : ℕ) → outcome_at c (item_at h line (suc item)) more ≡ Says r) → outcome_at c (item_at h line item) (text ++ more) ≡ Says r
  input_on v text more le here t k =
      ap (λ p. outcome_at c (at h line item p) (text ++ more)) here
      ∙ ap (outcome_at c (at h line item (Own owns.Input v None)))
      (ap (λ (z : List ℕ). z ++ more) (t.whole ∙ ap (λ (z : List ℕ). t.before ++ z) t.ends) ∙ append_assoc t.before (10 ∷ []) more)
      ∙ own_on owns.Input v 10 t.before more le refl t.begins
      ∙ rw (next_is item low) (k (dimacs.next_line line))

  pub own_latch_on : (v : ℕ) (x : rules.Latch) (text more : List ℕ) → 0 < v → v ≤ h.maximum → place_at h item ≡ Own owns.Latch v None → OwnLatchLine h.maximum v x text →
      ((line : ℕ) → outcome_at (add_latch c x) (item_at h line (suc item)) more ≡ Says r) → outcome_at c (item_at h line item) (text ++ more) ≡ Says r
  own_latch_on v x text more positive le here t k =
      ap (λ p. outcome_at c (at h line item p) (text ++ more)) here
      ∙ ap (outcome_at c (at h line item (Own owns.Latch v None)))
      (ap (λ (z : List ℕ). z ++ more) (t.whole ∙ ap (λ (z : List ℕ). t.before ++ z) (t.ends.whole ∙ ap (λ (z : List ℕ). z ++ t.ends.after) t.ends.begins))
      ∙ append_assoc t.before (32 ∷ t.ends.after) more)
      ∙ own_on owns.Latch v 32 t.before (t.ends.after ++ more) le refl t.begins
      ∙ latch_line_on c r h few line item low v x t.ends.after more positive le t.ends.ends k

  pub gate_line_on : (v : ℕ) (g : rules.Gate) (text more : List ℕ) → v ≤ h.maximum → place_at h item ≡ Own owns.Gate v None → GateLine v g text →
      ((line : ℕ) → outcome_at (add_gate c g) (item_at h line (suc item)) more ≡ Says r) → outcome_at c (item_at h line item) (text ++ more) ≡ Says r
  gate_line_on v g text more le here t k =
      ap (λ p. outcome_at c (at h line item p) (text ++ more)) here
      ∙ ap (outcome_at c (at h line item (Own owns.Gate v None)))
      (ap (λ (z : List ℕ). z ++ more) t.3.whole ∙ append_assoc t.3.before t.3.after more ∙ ap (λ (z : List ℕ). t.3.before ++ z) (opened g.left _ t.3.after more t.3.ends))
      ∙ own_on owns.Gate v 32 t.3.before (t.3.ends.begins.after ++ (t.3.ends.after ++ more)) le refl t.3.begins
      ∙ ap (λ (z : List ℕ). outcome_at c (at h line item (First v None)) (t.3.ends.begins.after ++ z)) (opened g.right (Is (10 ∷ [])) t.3.ends.after more t.3.ends.ends)
      ∙ digits_read (λ w. First v w) (λ s d x. in_first s v d x) (first_place v) c h line item None g.left t.3.ends.begins.after 32
      (t.3.ends.ends.begins.after ++ (t.3.ends.ends.after ++ more)) t.3.ends.begins.ends.digits refl (number_saturated g.left t.3.ends.begins.after t.3.ends.begins.ends (omega (arith, is_left, le, few)))
      ∙ rw (var_ok h v le few, lit_ok h g.left (omega (arith, is_left, le)) few, not_le (2 * v) g.left is_left) second_on
    where
      is_left : g.left < 2 * v
      is_left = t.1

      is_right : g.right < 2 * v
      is_right = t.2

      second_on : outcome_at c (at h line item (Second v g.left None)) (t.3.ends.ends.begins.after ++ (t.3.ends.ends.after ++ more)) ≡ Says r
      second_on =
          ap (λ (z : List ℕ). outcome_at c (at h line item (Second v g.left None)) (t.3.ends.ends.begins.after ++ (z ++ more))) t.3.ends.ends.ends
          ∙ digits_read (λ w. Second v g.left w) (λ s d x. in_second s v g.left d x) (second_place v g.left) c h line item None g.right t.3.ends.ends.begins.after 10 more
          t.3.ends.ends.begins.ends.digits refl (number_saturated g.right t.3.ends.ends.begins.after t.3.ends.ends.begins.ends (omega (arith, is_right, le, few)))
          ∙ rw (var_ok h v le few, lit_ok h g.left (omega (arith, is_left, le)) few, lit_ok h g.right (omega (arith, is_right, le)) few, not_le (2 * v) g.right is_right, next_is item low, gate_is v g t.0 c)
          (k (dimacs.next_line line))

-- ---- inputs

module _ (x r : Circuit) (sized : IsSized x) where
  pub input_here : (k : ℕ) → k < x.inputs → place_at (header_of forms.Text x) k ≡ Own owns.Input (k + 1) None
  input_here k lt = rw (lt-ltb k x.inputs lt) refl

  pub text_off : (j : ℕ) → place_at (header_of forms.Text x) (x.inputs + j) ≡ place_of (header_of forms.Text x) j
  text_off j = let less : x.inputs + j - x.inputs ≡ j = omega arith in rw (not_lt (x.inputs + j) x.inputs (omega arith), less) refl

  inputs_on : (n : ℕ) (c : Circuit) (line k v : ℕ) (text more : List ℕ) → k + n ≡ x.inputs → v ≡ suc k → InputLines v n text →
      ((line : ℕ) → outcome_at c (item_at (header_of forms.Text x) line x.inputs) more ≡ Says r) → outcome_at c (item_at (header_of forms.Text x) line k) (text ++ more) ≡ Says r
  inputs_on zero c line k v text more e ev t kk =
      let same : k ≡ x.inputs = omega arith in
      ap (λ (l : List ℕ). outcome_at c (item_at (header_of forms.Text x) line k) (l ++ more)) t ∙ ap (λ (n : ℕ). outcome_at c (item_at (header_of forms.Text x) line n) more) same ∙ kk line
  inputs_on (suc n) c line k v text more e ev t kk =
      let few = sized.variables in
      let own : k + 1 ≡ v = omega arith in
      ap (outcome_at c (item_at (header_of forms.Text x) line k)) (ap (λ (l : List ℕ). l ++ more) t.whole ∙ append_assoc t.before t.after more)
      ∙ input_on c r (header_of forms.Text x) sized.variables line k (omega arith) v t.before (t.after ++ more) (omega arith)
      (input_here k (omega arith) ∙ ap (λ (n : ℕ). Own owns.Input n None) own) t.begins
      (λ line2. inputs_on n c line2 (suc k) (suc v) t.after more (omega arith) (omega arith) t.ends kk)

-- ---- the whole

pub text_is_read : (x : Circuit) (text : List ℕ) → IsSized x → TextForm x text → outcome_of text ≡ Says x
text_is_read x text sized t =
    let low_inputs : x.inputs < 2 ^ 28 = let few = sized.variables in omega arith in
    ap outcome_of t.whole
    ∙ header_read_on forms.Text (codes "aag") x x t.before t.after text_begins sized t.begins
    (λ line. ap (outcome_at no_circuit (item_at (header_of forms.Text x) line 0)) t.ends.whole
    ∙ inputs_on x x sized x.inputs no_circuit line 0 1 t.ends.before t.ends.after (omega arith) refl t.ends.begins
    (λ line1. ap (outcome_at no_circuit (item_at (header_of forms.Text x) line1 x.inputs)) t.ends.ends.whole
    ∙ section_read (OwnLatchLine (maximum x)) add_latch (header_of forms.Text x) x x.inputs (suc x.inputs) (length x.latches)
    (λ c line k v item y text more lt ev ei is next.
    let few = sized.variables in
    let same : x.inputs + 1 + k ≡ v = omega arith in
    own_latch_on c x (header_of forms.Text x) sized.variables line item (omega arith) v y text more (omega arith) (omega arith)
    (ap (place_at (header_of forms.Text x)) ei ∙ text_off x x sized k ∙ latch_here (header_of forms.Text x) k lt ∙ ap (λ (n : ℕ). Own owns.Latch n None) same) is next)
    x.latches no_circuit line1 0 (suc x.inputs) x.inputs t.ends.ends.before t.ends.ends.after (omega arith) (omega arith) (omega arith) t.ends.ends.begins
    (λ line2. lit_lines_read forms.Text x x sized x.inputs low_inputs (text_off x x sized) (add_all add_latch no_circuit x.latches) line2 t.ends.ends.after
    (Then (Each GateLine (suc (x.inputs + length x.latches)) x.gates) (Rest x)) t.ends.ends.ends
    (λ line3 more g. ap (outcome_at (with_lit_lines x) (item_at (header_of forms.Text x) line3 (x.inputs + all_lines (header_of forms.Text x)))) g.whole
    ∙ section_read GateLine add_gate (header_of forms.Text x) x (x.inputs + all_lines (header_of forms.Text x)) (suc (x.inputs + length x.latches)) (length x.gates)
    (λ c line k v item y text more lt ev ei is next.
    let few = sized.variables in let outs = sized.outputs in let bads = sized.bad in let cons = sized.constraints in
    let e : item ≡ x.inputs + (all_lines (header_of forms.Text x) + k) = omega arith in
    let same : x.inputs + length x.latches + 1 + k ≡ v = omega arith in
    gate_line_on c x (header_of forms.Text x) sized.variables line item (omega arith) v y text more (omega arith)
    (ap (place_at (header_of forms.Text x)) e ∙ text_off x x sized (all_lines (header_of forms.Text x) + k) ∙ gate_here (header_of forms.Text x) k lt ∙ ap (λ (n : ℕ). Own owns.Gate n None) same) is next)
    x.gates (with_lit_lines x) line3 0 (suc (x.inputs + length x.latches)) (x.inputs + all_lines (header_of forms.Text x)) g.before g.after (omega arith) (omega arith) (omega arith) g.begins
    (λ line4. rest_on line4 g.after g.ends)))))
  where
    rest_on : (line : ℕ) (more : List ℕ) → Rest x more →
        outcome_at (add_all add_gate (with_lit_lines x) x.gates) (item_at (header_of forms.Text x) line (x.inputs + all_lines (header_of forms.Text x) + length x.gates)) more ≡ Says x
    rest_on line more is =
        let item = x.inputs + all_lines (header_of forms.Text x) + length x.gates in
        let same : x.inputs + all_lines (header_of forms.Text x) + length x.gates ≡ x.inputs + (all_lines (header_of forms.Text x) + length x.gates) = omega arith in
        ap (λ (n : ℕ). outcome_at (add_all add_gate (with_lit_lines x) x.gates) (at (header_of forms.Text x) line item (place_at (header_of forms.Text x) n)) more) same
        ∙ ap (λ p. outcome_at (add_all add_gate (with_lit_lines x) x.gates) (at (header_of forms.Text x) line item p) more)
        (text_off x x sized (all_lines (header_of forms.Text x) + length x.gates) ∙ rest_here (header_of forms.Text x))
        ∙ ap (λ (c : Circuit). outcome_at c (at (header_of forms.Text x) line item LineStart) more) (all_added x)
        ∙ rest_read forms.Text x (record x { inputs = 0 }) sized item line more is
