-- A written circuit is read.
use Rattle.std.proofs.Common.{◌≡◌, ℕ, suc, ◌+◌, ◌-◌, ◌^◌, ◌<◌, ◌≤◌, false, List, [], ◌∷◌, ◌++◌, length, refl, sym, ap, ◌∙◌, append_assoc, append-nil, inl, inr, arith}
use Rattle.std.specs.Prelude.{None, nat_lt, codes}
use Rattle.std.proofs.lemmas.Bool.{cases_Bool, lt-ltb, ltb-true}
use Rattle.circuit_rules.specs.Circuits as rules
use Rattle.circuit_text.specs.declared.circuit.Item.TheVariants.{OfOutput, OfBad, OfConstraint}
use Rattle.circuit_text.specs.declared.header.Form.{Form}
use Rattle.circuit_text.specs.declared.header.Form.TheVariants as forms
use Rattle.circuit_text.specs.declared.header.Header.{Header}
use Rattle.circuit_text.specs.declared.spot.Line.TheVariants as lines
use Rattle.circuit_text.specs.declared.spot.Place.TheVariants.{Left, Line, LineStart}
use Rattle.circuit_text.specs.automaton.Aigers.{Says, outcome_at, outcome_of}
use Rattle.circuit_text.specs.automaton.Items.{no_circuit}
use Rattle.circuit_text.specs.Circuits.{Circuit}
use Rattle.circuit_text.specs.automaton.Headers.{all_lines, bad_lines, gate_place, latch_place, output_lines, place_at, place_of}
use Rattle.circuit_text.specs.Written.{BinaryForm, Each, GateBytes, IsSized, LatchLine, LitLine, LitLines, Rest, Then, maximum}
use Rattle.circuit_text.proofs.WrittenHeaders.{binary_begins, header_of, header_read_on}
use Rattle.circuit_text.proofs.WrittenItems.{add_all, add_gate, add_latch, gate_read_on, item_at, latch_read_on, lit_item_read, section_read}
use Rattle.circuit_text.proofs.WrittenNumbers.{at}
use Rattle.circuit_text.proofs.WrittenRests.{rest_read}

-- ---- where items begin

pub not_lt : (a b : ℕ) → b ≤ a → nat_lt a b ≡ false
not_lt a b le = elim (cases_Bool (nat_lt a b)) [ inl low ↦ bad a b le (ltb-true a b low) | inr high ↦ high ]
  where
    bad : (a b : ℕ) → b ≤ a → a < b → nat_lt a b ≡ false
    bad a b le lt = absurd (omega arith)

module _ (h : Header) where
  pub latch_here : (k : ℕ) → k < h.latches → place_of h k ≡ latch_place h (h.inputs + 1 + k)
  latch_here k lt = rw (lt-ltb k h.latches lt) refl

  pub output_here : (k : ℕ) → k < h.outputs → place_of h (h.latches + k) ≡ Line lines.Output None
  output_here k lt = rw (not_lt (h.latches + k) h.latches (omega arith), lt-ltb (h.latches + k) (h.latches + h.outputs) (omega arith)) refl

  pub bad_here : (k : ℕ) → k < h.bad → place_of h (output_lines h + k) ≡ Line lines.Bad None
  bad_here k lt = rw (not_lt (output_lines h + k) h.latches (omega arith), not_lt (output_lines h + k) (output_lines h) (omega arith), lt-ltb (output_lines h + k) (bad_lines h) (omega arith)) refl

  pub constraint_here : (k : ℕ) → k < h.constraints → place_of h (bad_lines h + k) ≡ Line lines.Constraint None
  constraint_here k lt = rw (
    not_lt (bad_lines h + k) h.latches (omega arith),
    not_lt (bad_lines h + k) (output_lines h) (omega arith),
    not_lt (bad_lines h + k) (bad_lines h) (omega arith),
    lt-ltb (bad_lines h + k) (all_lines h) (omega arith),
  ) refl

  pub gate_here : (k : ℕ) → k < h.gates → place_of h (all_lines h + k) ≡ gate_place h (h.inputs + h.latches + 1 + k)
  gate_here k lt =
      let less : all_lines h + k - all_lines h ≡ k = omega arith in
      rw (
        not_lt (all_lines h + k) h.latches (omega arith),
        not_lt (all_lines h + k) (output_lines h) (omega arith),
        not_lt (all_lines h + k) (bad_lines h) (omega arith),
        not_lt (all_lines h + k) (all_lines h) (omega arith),
        lt-ltb (all_lines h + k) (all_lines h + h.gates) (omega arith),
        less,
      ) refl

  pub rest_here : place_of h (all_lines h + h.gates) ≡ LineStart
  rest_here =
      rw (
        not_lt (all_lines h + h.gates) h.latches (omega arith),
        not_lt (all_lines h + h.gates) (output_lines h) (omega arith),
        not_lt (all_lines h + h.gates) (bad_lines h) (omega arith),
        not_lt (all_lines h + h.gates) (all_lines h) (omega arith),
        not_lt (all_lines h + h.gates) (all_lines h + h.gates) (omega arith),
      ) refl

-- ---- all items of a kind

abbrev pub add_output : Circuit → ℕ → Circuit
add_output c l = record c { outputs = c.outputs ++ l ∷ [] }

abbrev pub add_bad : Circuit → ℕ → Circuit
add_bad c l = record c { bad = c.bad ++ l ∷ [] }

abbrev pub add_constraint : Circuit → ℕ → Circuit
add_constraint c l = record c { constraints = c.constraints ++ l ∷ [] }

abbrev with_latches : Circuit → List rules.Latch → Circuit
with_latches c l = record c { latches = l }

all_latches : (xs : List rules.Latch) (c : Circuit) → add_all add_latch c xs ≡ with_latches c (c.latches ++ xs)
all_latches [] c = ap (with_latches c) (sym (append-nil c.latches))
all_latches (x ∷ xs) c = all_latches xs (add_latch c x) ∙ ap (with_latches c) (append_assoc c.latches (x ∷ []) xs)

abbrev with_outputs : Circuit → List ℕ → Circuit
with_outputs c l = record c { outputs = l }

all_outputs : (xs : List ℕ) (c : Circuit) → add_all add_output c xs ≡ with_outputs c (c.outputs ++ xs)
all_outputs [] c = ap (with_outputs c) (sym (append-nil c.outputs))
all_outputs (x ∷ xs) c = all_outputs xs (add_output c x) ∙ ap (with_outputs c) (append_assoc c.outputs (x ∷ []) xs)

abbrev with_bad : Circuit → List ℕ → Circuit
with_bad c l = record c { bad = l }

all_bad : (xs : List ℕ) (c : Circuit) → add_all add_bad c xs ≡ with_bad c (c.bad ++ xs)
all_bad [] c = ap (with_bad c) (sym (append-nil c.bad))
all_bad (x ∷ xs) c = all_bad xs (add_bad c x) ∙ ap (with_bad c) (append_assoc c.bad (x ∷ []) xs)

abbrev with_constraints : Circuit → List ℕ → Circuit
with_constraints c l = record c { constraints = l }

all_constraints : (xs : List ℕ) (c : Circuit) → add_all add_constraint c xs ≡ with_constraints c (c.constraints ++ xs)
all_constraints [] c = ap (with_constraints c) (sym (append-nil c.constraints))
all_constraints (x ∷ xs) c = all_constraints xs (add_constraint c x) ∙ ap (with_constraints c) (append_assoc c.constraints (x ∷ []) xs)

abbrev with_gates : Circuit → List rules.Gate → Circuit
with_gates c l = record c { gates = l }

all_gates : (xs : List rules.Gate) (c : Circuit) → add_all add_gate c xs ≡ with_gates c (c.gates ++ xs)
all_gates [] c = ap (with_gates c) (sym (append-nil c.gates))
all_gates (x ∷ xs) c = all_gates xs (add_gate c x) ∙ ap (with_gates c) (append_assoc c.gates (x ∷ []) xs)

pub all_added : (x : Circuit) →
    add_all add_gate (add_all add_constraint (add_all add_bad (add_all add_output (add_all add_latch no_circuit x.latches) x.outputs) x.bad) x.constraints) x.gates ≡ record x { inputs = 0 }
all_added x =
    ap (λ c. add_all add_gate (add_all add_constraint (add_all add_bad (add_all add_output c x.outputs) x.bad) x.constraints) x.gates) (all_latches x.latches no_circuit)
    ∙ ap (λ c. add_all add_gate (add_all add_constraint (add_all add_bad c x.bad) x.constraints) x.gates) (all_outputs x.outputs (with_latches no_circuit x.latches))
    ∙ ap (λ c. add_all add_gate (add_all add_constraint c x.constraints) x.gates) (all_bad x.bad (with_outputs (with_latches no_circuit x.latches) x.outputs))
    ∙ ap (λ c. add_all add_gate c x.gates) (all_constraints x.constraints (with_bad (with_outputs (with_latches no_circuit x.latches) x.outputs) x.bad))
    ∙ all_gates x.gates (with_constraints (with_bad (with_outputs (with_latches no_circuit x.latches) x.outputs) x.bad) x.constraints)

-- ---- what follows the latches, in either form

module _ (form : Form) (x r : Circuit) (sized : IsSized x) (base : ℕ) (few : base < 2 ^ 28)
    (off : (j : ℕ) → place_at (header_of form x) (base + j) ≡ place_of (header_of form x) j) where
  item_small : (a k n item : ℕ) → item ≡ base + a + k → k < n → a < 2 ^ 30 → n < 2 ^ 28 → item < 2 ^ 32
  item_small a k n item e lt la ln = omega arith

  pub lit_lines_read : (c : Circuit) (line : ℕ) (text : List ℕ) (G : List ℕ → Type 0) → LitLines x G text →
      ((line : ℕ) (more : List ℕ) → G more →
      outcome_at (add_all add_constraint (add_all add_bad (add_all add_output c x.outputs) x.bad) x.constraints) (item_at (header_of form x) line (base + all_lines (header_of form x))) more ≡ Says r) →
      outcome_at c (item_at (header_of form x) line (base + length x.latches)) text ≡ Says r
  lit_lines_read c line text G t kk =
      ap (outcome_at c (item_at (header_of form x) line (base + length x.latches))) t.whole
      ∙ section_read (LitLine (maximum x)) add_output (header_of form x) r (base + length x.latches) 0 (length x.outputs)
      (λ c line k v item l text more lt ev ei is next.
      let low : item < 2 ^ 32 = omega (arith, lt, ei, few, sized.variables, sized.outputs, sized.bad, sized.constraints) in
      let e : item ≡ base + (length x.latches + k) = omega (arith, ei) in
      lit_item_read c r (header_of form x) sized.variables line item low lines.Output (λ (n : ℕ). OfOutput n) v l text more (λ s. refl)
      (ap (place_at (header_of form x)) e ∙ off (length x.latches + k) ∙ output_here (header_of form x) k lt) is next)
      x.outputs c line 0 0 (base + length x.latches) t.before t.after (omega arith) refl (omega arith) t.begins
      (λ line2. ap (λ n. outcome_at (add_all add_output c x.outputs) (item_at (header_of form x) line2 n) t.after) outs ∙ (
      ap (outcome_at (add_all add_output c x.outputs) (item_at (header_of form x) line2 (base + output_lines (header_of form x)))) t.ends.whole
      ∙ section_read (LitLine (maximum x)) add_bad (header_of form x) r (base + output_lines (header_of form x)) 0 (length x.bad)
      (λ c line k v item l text more lt ev ei is next.
      let low : item < 2 ^ 32 = omega (arith, lt, ei, few, sized.variables, sized.outputs, sized.bad, sized.constraints) in
      let e : item ≡ base + (output_lines (header_of form x) + k) = omega (arith, ei) in
      lit_item_read c r (header_of form x) sized.variables line item low lines.Bad (λ (n : ℕ). OfBad n) v l text more (λ s. refl)
      (ap (place_at (header_of form x)) e ∙ off (output_lines (header_of form x) + k) ∙ bad_here (header_of form x) k lt) is next)
      x.bad (add_all add_output c x.outputs) line2 0 0 (base + output_lines (header_of form x)) t.ends.before t.ends.after (omega arith) refl (omega arith) t.ends.begins
      (λ line3. ap (λ n. outcome_at (add_all add_bad (add_all add_output c x.outputs) x.bad) (item_at (header_of form x) line3 n) t.ends.after) bads ∙ (
      ap (outcome_at (add_all add_bad (add_all add_output c x.outputs) x.bad) (item_at (header_of form x) line3 (base + bad_lines (header_of form x)))) t.ends.ends.whole
      ∙ section_read (LitLine (maximum x)) add_constraint (header_of form x) r (base + bad_lines (header_of form x)) 0 (length x.constraints)
      (λ c line k v item l text more lt ev ei is next.
      let low : item < 2 ^ 32 = omega (arith, lt, ei, few, sized.variables, sized.outputs, sized.bad, sized.constraints) in
      let e : item ≡ base + (bad_lines (header_of form x) + k) = omega (arith, ei) in
      lit_item_read c r (header_of form x) sized.variables line item low lines.Constraint (λ (n : ℕ). OfConstraint n) v l text more (λ s. refl)
      (ap (place_at (header_of form x)) e ∙ off (bad_lines (header_of form x) + k) ∙ constraint_here (header_of form x) k lt) is next)
      x.constraints (add_all add_bad (add_all add_output c x.outputs) x.bad) line3 0 0 (base + bad_lines (header_of form x)) t.ends.ends.before t.ends.ends.after (omega arith) refl (omega arith) t.ends.ends.begins
      (λ line4. ap (λ n. outcome_at (add_all add_constraint (add_all add_bad (add_all add_output c x.outputs) x.bad) x.constraints) (item_at (header_of form x) line4 n) t.ends.ends.after) cons
      ∙ kk line4 t.ends.ends.after t.ends.ends.ends)))))
    where
      outs : base + length x.latches + length x.outputs ≡ base + output_lines (header_of form x)
      outs = omega arith

      bads : base + output_lines (header_of form x) + length x.bad ≡ base + bad_lines (header_of form x)
      bads = omega arith

      cons : base + bad_lines (header_of form x) + length x.constraints ≡ base + all_lines (header_of form x)
      cons = omega arith

abbrev pub with_lit_lines : Circuit → Circuit
with_lit_lines x = add_all add_constraint (add_all add_bad (add_all add_output (add_all add_latch no_circuit x.latches) x.outputs) x.bad) x.constraints

-- ---- the binary form

pub binary_is_read : (x : Circuit) (text : List ℕ) → IsSized x → BinaryForm x text → outcome_of text ≡ Says x
binary_is_read x text sized t =
    ap outcome_of t.whole
    ∙ header_read_on forms.Binary (codes "aig") x x t.before t.after binary_begins sized t.begins
    (λ line. ap (outcome_at no_circuit (item_at (header_of forms.Binary x) line 0)) t.ends.whole
    ∙ section_read (LatchLine (maximum x)) add_latch (header_of forms.Binary x) x 0 (suc x.inputs) (length x.latches)
    (λ c line k v item y text more lt ev ei is next.
    let few = sized.variables in
    let e : item ≡ k = omega arith in
    let same : x.inputs + 1 + k ≡ v = omega arith in
    latch_read_on c x (header_of forms.Binary x) sized.variables line item (omega arith) v y text more (omega arith) (omega arith)
    (ap (place_at (header_of forms.Binary x)) e ∙ latch_here (header_of forms.Binary x) k lt ∙ ap (λ (n : ℕ). Line (lines.Latch n) None) same) is next)
    x.latches no_circuit line 0 (suc x.inputs) 0 t.ends.before t.ends.after (omega arith) (omega arith) refl t.ends.begins
    (λ line2. lit_lines_read forms.Binary x x sized 0 (omega arith) (λ j. ap (place_at (header_of forms.Binary x)) (omega arith)) (add_all add_latch no_circuit x.latches) line2 t.ends.after
    (Then (Each GateBytes (suc (x.inputs + length x.latches)) x.gates) (Rest x)) t.ends.ends
    (λ line3 more g. ap (outcome_at (with_lit_lines x) (item_at (header_of forms.Binary x) line3 (0 + all_lines (header_of forms.Binary x)))) g.whole
    ∙ section_read GateBytes add_gate (header_of forms.Binary x) x (0 + all_lines (header_of forms.Binary x)) (suc (x.inputs + length x.latches)) (length x.gates)
    (λ c line k v item y text more lt ev ei is next.
    let few = sized.variables in let outs = sized.outputs in let bads = sized.bad in let cons = sized.constraints in
    let e : item ≡ all_lines (header_of forms.Binary x) + k = omega arith in
    let same : x.inputs + length x.latches + 1 + k ≡ v = omega arith in
    gate_read_on c x (header_of forms.Binary x) sized.variables line item (omega arith) v y text more (omega arith)
    (ap (place_at (header_of forms.Binary x)) e ∙ gate_here (header_of forms.Binary x) k lt ∙ ap (λ (n : ℕ). Left n 0 1) same) is next)
    x.gates (with_lit_lines x) line3 0 (suc (x.inputs + length x.latches)) (0 + all_lines (header_of forms.Binary x)) g.before g.after (omega arith) (omega arith) (omega arith) g.begins
    (λ line4. rest_on line4 g.after g.ends))))
  where
    rest_on : (line : ℕ) (more : List ℕ) → Rest x more →
        outcome_at (add_all add_gate (with_lit_lines x) x.gates) (item_at (header_of forms.Binary x) line (0 + all_lines (header_of forms.Binary x) + length x.gates)) more ≡ Says x
    rest_on line more is =
        let same : 0 + all_lines (header_of forms.Binary x) + length x.gates ≡ all_lines (header_of forms.Binary x) + length x.gates = omega arith in
        ap (λ (n : ℕ). outcome_at (add_all add_gate (with_lit_lines x) x.gates) (at (header_of forms.Binary x) line (0 + all_lines (header_of forms.Binary x) + length x.gates) (place_at (header_of forms.Binary x) n)) more) same
        ∙ ap (λ p. outcome_at (add_all add_gate (with_lit_lines x) x.gates) (at (header_of forms.Binary x) line (0 + all_lines (header_of forms.Binary x) + length x.gates) p) more) (rest_here (header_of forms.Binary x))
        ∙ ap (λ (c : Circuit). outcome_at c (at (header_of forms.Binary x) line (0 + all_lines (header_of forms.Binary x) + length x.gates) LineStart) more) (all_added x)
        ∙ rest_read forms.Binary x (record x { inputs = 0 }) sized (0 + all_lines (header_of forms.Binary x) + length x.gates) line more is
