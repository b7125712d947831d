-- A circuit that is read was written.
use Rattle.std.proofs.Common.{◌≡◌, ℕ, suc, ◌+◌, ◌^◌, ◌<◌, List, [], ◌∷◌, ◌++◌, length, refl, sym, ap, subst, ◌∙◌, arith}
use Rattle.std.specs.Prelude.{None, codes}
use Rattle.circuit_text.specs.declared.circuit.Item.TheVariants.{OfOutput, OfBad, OfConstraint}
use Rattle.circuit_text.specs.declared.header.Form.TheVariants as forms
use Rattle.circuit_text.specs.declared.header.Header.{Header}
use Rattle.circuit_text.specs.declared.spot.Line.TheVariants as lines
use Rattle.circuit_text.specs.declared.spot.Place.TheVariants.{Left, Line, LineStart}
use Rattle.circuit_text.specs.automaton.Aigers.{Says, outcome_at}
use Rattle.circuit_text.specs.automaton.Items.{no_circuit}
use Rattle.circuit_text.specs.Circuits.{Circuit}
use Rattle.circuit_text.specs.automaton.Headers.{all_lines, bad_lines, output_lines, place_at, place_of}
use Rattle.circuit_text.specs.Written.{BinaryForm, Each, GateBytes, IsSized, LatchLine, LitLine, Rest, Then, maximum}
use Rattle.circuit_text.proofs.WrittenHeaders.{header, header_of}
use Rattle.circuit_text.proofs.WrittenHeadersBack.{HeaderRead, NumbersText, header_back}
use Rattle.circuit_text.proofs.WrittenWordsBack.{WordRead}
use Rattle.circuit_text.proofs.WrittenItems.{add_all, add_gate, add_latch, item_at}
use Rattle.circuit_text.proofs.WrittenItemsBack.{ItemsRead, gate_back, latch_back, lit_item_back, section_back}
use Rattle.circuit_text.proofs.WrittenNumbers.{at}
use Rattle.circuit_text.proofs.WrittenRestsBack.{rest_back}
use Rattle.circuit_text.proofs.WrittenWhole.{add_bad, add_constraint, add_output, all_added, bad_here, constraint_here, gate_here, latch_here, output_here, rest_here}

-- ---- outputs, bad outputs and constraints, in either form

pub record IsSmall (h : Header) : Type 0 where
  pub sum : h.maximum ≡ h.inputs + h.latches + h.gates
  pub few : h.maximum < 2 ^ 28
  pub outputs : h.outputs < 2 ^ 28
  pub bad : h.bad < 2 ^ 28
  pub constraints : h.constraints < 2 ^ 28

module _ (h : Header) (r : Circuit) (small : IsSmall h) (base : ℕ) (low_base : base < 2 ^ 28) (off : (j : ℕ) → place_at h (base + j) ≡ place_of h j) where
  pub outputs_back : (c : Circuit) (line : ℕ) (text : List ℕ) → outcome_at c (item_at h line (base + h.latches)) text ≡ Says r →
      ItemsRead (LitLine h.maximum) add_output h r c h.outputs 0 (base + h.latches + h.outputs) text
  outputs_back c line text e =
      section_back (LitLine h.maximum) add_output h r (base + h.latches) 0 h.outputs
      (λ c line k v item text lt ev ei on.
      let low : item < 2 ^ 32 = omega (arith, lt, ei, low_base, small.sum, small.few, small.outputs, small.bad, small.constraints) in
      let same : item ≡ base + (h.latches + k) = omega (arith, ei) in
      lit_item_back c r h small.few line item low lines.Output (λ (n : ℕ). OfOutput n) v text (λ s l b. refl) (ap (place_at h) same ∙ off (h.latches + k) ∙ output_here h k lt) on)
      h.outputs c line 0 0 (base + h.latches) text (omega arith) refl (omega arith) e

  pub bad_back : (c : Circuit) (line : ℕ) (text : List ℕ) → outcome_at c (item_at h line (base + output_lines h)) text ≡ Says r →
      ItemsRead (LitLine h.maximum) add_bad h r c h.bad 0 (base + output_lines h + h.bad) text
  bad_back c line text e =
      section_back (LitLine h.maximum) add_bad h r (base + output_lines h) 0 h.bad
      (λ c line k v item text lt ev ei on.
      let low : item < 2 ^ 32 = omega (arith, lt, ei, low_base, small.sum, small.few, small.outputs, small.bad, small.constraints) in
      let same : item ≡ base + (output_lines h + k) = omega (arith, ei) in
      lit_item_back c r h small.few line item low lines.Bad (λ (n : ℕ). OfBad n) v text (λ s l b. refl) (ap (place_at h) same ∙ off (output_lines h + k) ∙ bad_here h k lt) on)
      h.bad c line 0 0 (base + output_lines h) text (omega arith) refl (omega arith) e

  pub constraints_back : (c : Circuit) (line : ℕ) (text : List ℕ) → outcome_at c (item_at h line (base + bad_lines h)) text ≡ Says r →
      ItemsRead (LitLine h.maximum) add_constraint h r c h.constraints 0 (base + bad_lines h + h.constraints) text
  constraints_back c line text e =
      section_back (LitLine h.maximum) add_constraint h r (base + bad_lines h) 0 h.constraints
      (λ c line k v item text lt ev ei on.
      let low : item < 2 ^ 32 = omega (arith, lt, ei, low_base, small.sum, small.few, small.outputs, small.bad, small.constraints) in
      let same : item ≡ base + (bad_lines h + k) = omega (arith, ei) in
      lit_item_back c r h small.few line item low lines.Constraint (λ (n : ℕ). OfConstraint n) v text (λ s l b. refl) (ap (place_at h) same ∙ off (bad_lines h + k) ∙ constraint_here h k lt) on)
      h.constraints c line 0 0 (base + bad_lines h) text (omega arith) refl (omega arith) e

  -- all three
  pub record LitLinesRead (c : Circuit) (text : List ℕ) : Type 0 where
    pub outputs : List ℕ
    pub bad : List ℕ
    pub constraints : List ℕ
    pub more : List ℕ
    pub line : ℕ
    pub count_outputs : length outputs ≡ h.outputs
    pub count_bad : length bad ≡ h.bad
    pub count_constraints : length constraints ≡ h.constraints
    pub begun1 : List ℕ
    pub begun2 : List ℕ
    pub begun3 : List ℕ
    pub whole : text ≡ begun1 ++ (begun2 ++ (begun3 ++ more))
    pub are_outputs : Each (LitLine h.maximum) 0 outputs begun1
    pub are_bad : Each (LitLine h.maximum) 0 bad begun2
    pub are_constraints : Each (LitLine h.maximum) 0 constraints begun3
    pub on : outcome_at (add_all add_constraint (add_all add_bad (add_all add_output c outputs) bad) constraints) (item_at h line (base + all_lines h)) more ≡ Says r

  move : (c : Circuit) (line a b : ℕ) (text : List ℕ) → a ≡ b → outcome_at c (item_at h line a) text ≡ Says r → outcome_at c (item_at h line b) text ≡ Says r
  move c line a b text e on = subst (λ (n : ℕ). outcome_at c (item_at h line n) text ≡ Says r) e on

  pub lit_lines_back : (c : Circuit) (line : ℕ) (text : List ℕ) → outcome_at c (item_at h line (base + h.latches)) text ≡ Says r → LitLinesRead c text
  lit_lines_back c line text e =
      let o = outputs_back c line text e in
      let o_on = move (add_all add_output c o.xs) o.line (base + h.latches + h.outputs) (base + output_lines h) o.more (omega arith) o.on in
      let b = bad_back (add_all add_output c o.xs) o.line o.more o_on in
      let b_on = move (add_all add_bad (add_all add_output c o.xs) b.xs) b.line (base + output_lines h + h.bad) (base + bad_lines h) b.more (omega arith) b.on in
      let k = constraints_back (add_all add_bad (add_all add_output c o.xs) b.xs) b.line b.more b_on in
      record {
        outputs = o.xs;
        bad = b.xs;
        constraints = k.xs;
        more = k.more;
        line = k.line;
        count_outputs = o.count;
        count_bad = b.count;
        count_constraints = k.count;
        begun1 = o.begun;
        begun2 = b.begun;
        begun3 = k.begun;
        whole = o.whole ∙ ap (λ (l : List ℕ). o.begun ++ l) (b.whole ∙ ap (λ (l : List ℕ). b.begun ++ l) k.whole);
        are_outputs = o.is;
        are_bad = b.is;
        are_constraints = k.is;
        on = move (add_all add_constraint (add_all add_bad (add_all add_output c o.xs) b.xs) k.xs) k.line (base + bad_lines h + h.constraints) (base + all_lines h) k.more (omega arith) k.on;
      }

  pub lit_lines_then : (c : Circuit) (text : List ℕ) (d : LitLinesRead c text) (G : List ℕ → Type 0) → G d.more →
      Then (Each (LitLine h.maximum) 0 d.outputs) (Then (Each (LitLine h.maximum) 0 d.bad) (Then (Each (LitLine h.maximum) 0 d.constraints) G)) text
  lit_lines_then c text d G g = record {
    before = d.begun1;
    after = d.begun2 ++ (d.begun3 ++ d.more);
    whole = d.whole;
    begins = d.are_outputs;
    ends = record {
      before = d.begun2;
      after = d.begun3 ++ d.more;
      whole = refl;
      begins = d.are_bad;
      ends = record { before = d.begun3; after = d.more; whole = refl; begins = d.are_constraints; ends = g };
    };
  }

-- ---- the binary form

abbrev pub Written : List ℕ → Circuit → Type 0
Written text r = (x : Circuit) × IsSized x × BinaryForm x text × (r ≡ x)

-- the parts are put together
assemble : (r : Circuit) (text : List ℕ) (w : HeaderRead r forms.Binary (codes "aig") text) →
    (ls : ItemsRead (LatchLine w.m) add_latch (header forms.Binary w.m w.i w.l w.o w.a w.b w.c) r no_circuit w.l (suc w.i) (0 + w.l) w.more) →
    (small : IsSmall (header forms.Binary w.m w.i w.l w.o w.a w.b w.c)) → (z : 0 < 2 ^ 28) →
    (off : (j : ℕ) → place_at (header forms.Binary w.m w.i w.l w.o w.a w.b w.c) (0 + j) ≡ place_of (header forms.Binary w.m w.i w.l w.o w.a w.b w.c) j) →
    (ms : LitLinesRead (header forms.Binary w.m w.i w.l w.o w.a w.b w.c) r small 0 z off (add_all add_latch no_circuit ls.xs) ls.more) →
    (gs : ItemsRead GateBytes add_gate (header forms.Binary w.m w.i w.l w.o w.a w.b w.c) r
    (add_all add_constraint (add_all add_bad (add_all add_output (add_all add_latch no_circuit ls.xs) ms.outputs) ms.bad) ms.constraints)
    w.a (suc (w.i + w.l)) (all_lines (header forms.Binary w.m w.i w.l w.o w.a w.b w.c) + w.a) ms.more) → Written text r
assemble r text w ls small z off ms gs =
    let x : Circuit = record { inputs = w.i; latches = ls.xs; outputs = ms.outputs; bad = ms.bad; constraints = ms.constraints; gates = gs.xs } in
    let em : w.m ≡ maximum x = w.sum ∙ ap (λ (n : ℕ). w.i + n + w.a) (sym ls.count) ∙ ap (λ (n : ℕ). w.i + length ls.xs + n) (sym gs.count) in
    let same : header forms.Binary w.m w.i w.l w.o w.a w.b w.c ≡ header_of forms.Binary x =
    ap (λ (n : ℕ). header forms.Binary n w.i w.l w.o w.a w.b w.c) em
    ∙ ap (λ (n : ℕ). header forms.Binary (maximum x) w.i n w.o w.a w.b w.c) (sym ls.count)
    ∙ ap (λ (n : ℕ). header forms.Binary (maximum x) w.i (length ls.xs) n w.a w.b w.c) (sym ms.count_outputs)
    ∙ ap (λ (n : ℕ). header forms.Binary (maximum x) w.i (length ls.xs) (length ms.outputs) n w.b w.c) (sym gs.count)
    ∙ ap (λ (n : ℕ). header forms.Binary (maximum x) w.i (length ls.xs) (length ms.outputs) (length gs.xs) n w.c) (sym ms.count_bad)
    ∙ ap (λ (n : ℕ). header forms.Binary (maximum x) w.i (length ls.xs) (length ms.outputs) (length gs.xs) (length ms.bad) n) (sym ms.count_constraints) in
    let sized : IsSized x = record {
      variables = subst (λ (n : ℕ). n < 2 ^ 28) em w.few;
      outputs = subst (λ (n : ℕ). n < 2 ^ 28) (sym ms.count_outputs) w.outputs;
      bad = subst (λ (n : ℕ). n < 2 ^ 28) (sym ms.count_bad) w.bad;
      constraints = subst (λ (n : ℕ). n < 2 ^ 28) (sym ms.count_constraints) w.constraints;
    } in
    let all = add_all add_gate (add_all add_constraint (add_all add_bad (add_all add_output (add_all add_latch no_circuit ls.xs) ms.outputs) ms.bad) ms.constraints) gs.xs in
    let item = all_lines (header forms.Binary w.m w.i w.l w.o w.a w.b w.c) + w.a in
    let start_on : outcome_at all (at (header forms.Binary w.m w.i w.l w.o w.a w.b w.c) gs.line item LineStart) gs.more ≡ Says r =
    subst (λ p. outcome_at all (at (header forms.Binary w.m w.i w.l w.o w.a w.b w.c) gs.line item p) gs.more ≡ Says r) (rest_here (header forms.Binary w.m w.i w.l w.o w.a w.b w.c)) gs.on in
    let rest = rest_back forms.Binary x all r sized item (length gs.more) gs.line gs.more (omega arith)
    (subst (λ h. outcome_at all (at h gs.line item LineStart) gs.more ≡ Says r) same start_on) in
    let numbers0 = subst (λ (n : ℕ). NumbersText (codes "aig") n w.i w.l w.o w.a (w.b ∷ w.c ∷ 0 ∷ 0 ∷ []) w.begun) em w.is in
    let numbers1 = subst (λ (n : ℕ). NumbersText (codes "aig") (maximum x) w.i n w.o w.a (w.b ∷ w.c ∷ 0 ∷ 0 ∷ []) w.begun) (sym ls.count) numbers0 in
    let numbers2 = subst (λ (n : ℕ). NumbersText (codes "aig") (maximum x) w.i (length ls.xs) n w.a (w.b ∷ w.c ∷ 0 ∷ 0 ∷ []) w.begun) (sym ms.count_outputs) numbers1 in
    let numbers3 = subst (λ (n : ℕ). NumbersText (codes "aig") (maximum x) w.i (length ls.xs) (length ms.outputs) n (w.b ∷ w.c ∷ 0 ∷ 0 ∷ []) w.begun) (sym gs.count) numbers2 in
    let numbers4 = subst (λ (n : ℕ). NumbersText (codes "aig") (maximum x) w.i (length ls.xs) (length ms.outputs) (length gs.xs) (n ∷ w.c ∷ 0 ∷ 0 ∷ []) w.begun) (sym ms.count_bad) numbers3 in
    let numbers5 = subst (λ (n : ℕ). NumbersText (codes "aig") (maximum x) w.i (length ls.xs) (length ms.outputs) (length gs.xs) (length ms.bad ∷ n ∷ 0 ∷ 0 ∷ []) w.begun) (sym ms.count_constraints) numbers4 in
    let gates_are : Then (Each GateBytes (suc (w.i + length ls.xs)) gs.xs) (Rest x) ms.more =
    record { before = gs.begun; after = gs.more; whole = gs.whole; begins = subst (λ (n : ℕ). Each GateBytes (suc (w.i + n)) gs.xs gs.begun) (sym ls.count) gs.is; ends = rest.is } in (
      x,
      sized,
      record {
        before = w.begun;
        after = w.more;
        whole = w.whole;
        begins = numbers5;
        ends = record {
          before = ls.begun;
          after = ls.more;
          whole = ls.whole;
          begins = subst (λ (n : ℕ). Each (LatchLine n) (suc w.i) ls.xs ls.begun) em ls.is;
          ends = subst (λ (n : ℕ). Then (Each (LitLine n) 0 ms.outputs) (Then (Each (LitLine n) 0 ms.bad) (Then (Each (LitLine n) 0 ms.constraints) (Then (Each GateBytes (suc (w.i + length ls.xs)) gs.xs) (Rest x)))) ls.more)
              em (lit_lines_then (header forms.Binary w.m w.i w.l w.o w.a w.b w.c) r small 0 z off (add_all add_latch no_circuit ls.xs) ls.more ms (Then (Each GateBytes (suc (w.i + length ls.xs)) gs.xs) (Rest x)) gates_are);
        };
      },
      rest.same ∙ ap (λ (c : Circuit). record c { inputs = w.i }) (all_added x),
    )

pub binary_is_written : (r : Circuit) (text : List ℕ) → WordRead r forms.Binary (codes "aig") text → Written text r
binary_is_written r text word = by_header (header_back r forms.Binary (codes "aig") text word)
  where
    by_header : HeaderRead r forms.Binary (codes "aig") text → Written text r
    by_header w =
        let h = header forms.Binary w.m w.i w.l w.o w.a w.b w.c in
        let sum = w.sum in let few = w.few in let outs = w.outputs in let bads = w.bad in let cons = w.constraints in
        let small : IsSmall h = record { sum = w.sum; few = w.few; outputs = w.outputs; bad = w.bad; constraints = w.constraints } in
        let off : (j : ℕ) → place_at h (0 + j) ≡ place_of h j = λ j. ap (place_at h) (omega arith) in
        let ls = section_back (LatchLine w.m) add_latch h r 0 (suc w.i) w.l
        (λ c line k v item text lt ev ei on.
        let e : item ≡ k = omega (arith, ei) in
        let same : w.i + 1 + k ≡ v = omega (arith, ev) in
        latch_back c r h w.few line item (omega (arith, ei, lt, sum, few)) v text (omega (arith, ev, lt, sum)) (ap (place_at h) e ∙ latch_here h k lt ∙ ap (λ (n : ℕ). Line (lines.Latch n) None) same) on)
        w.l no_circuit w.line 0 (suc w.i) 0 w.more (omega arith) (omega arith) refl w.on in
        let ls_on : outcome_at (add_all add_latch no_circuit ls.xs) (item_at h ls.line (0 + w.l)) ls.more ≡ Says r = ls.on in
        let ms = lit_lines_back h r small 0 (omega arith) off (add_all add_latch no_circuit ls.xs) ls.line ls.more ls_on in
        let with_lit_lines = add_all add_constraint (add_all add_bad (add_all add_output (add_all add_latch no_circuit ls.xs) ms.outputs) ms.bad) ms.constraints in
        let gates_on : outcome_at with_lit_lines (item_at h ms.line (all_lines h)) ms.more ≡ Says r = subst (λ (n : ℕ). outcome_at with_lit_lines (item_at h ms.line n) ms.more ≡ Says r) (omega arith) ms.on in
        let gs = section_back GateBytes add_gate h r (all_lines h) (suc (w.i + w.l)) w.a
        (λ c line k v item text lt ev ei on.
        let e : item ≡ all_lines h + k = omega (arith, ei) in
        let same : w.i + w.l + 1 + k ≡ v = omega (arith, ev) in
        gate_back c r h w.few line item (omega (arith, ei, lt, sum, few, outs, bads, cons)) v text (omega (arith, ev, lt, sum)) (ap (place_at h) e ∙ gate_here h k lt ∙ ap (λ (n : ℕ). Left n 0 1) same) on)
        w.a with_lit_lines ms.line 0 (suc (w.i + w.l)) (all_lines h) ms.more (omega arith) (omega arith) (omega arith) gates_on in
        assemble r text w ls small (omega arith) off ms gs
