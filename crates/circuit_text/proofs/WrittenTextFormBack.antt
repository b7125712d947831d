-- The text form, read: of which texts it is.
use Rattle.std.proofs.Common.{◌≡◌, ℕ, zero, suc, ◌+◌, ◌-◌, ◌*◌, ◌^◌, ◌<◌, ◌≤◌, List, [], ◌∷◌, ◌++◌, length, Some, Ok, Err, refl, sym, ap, subst, ◌∙◌, append_assoc, arith}
use Rattle.std.specs.Prelude.{None, Result, ◌==◌, codes, nat_le, if◌then◌else◌}
use Rattle.std.proofs.lemmas.Bool.{eqb-true, lt-ltb}
use Rattle.sat_rules.specs.Clauses.{var_of}
use Rattle.sat_formula.specs.Bytes.{is_lf}
use Rattle.sat_formula.specs.Outcome as dimacs
use Rattle.circuit_text.specs.declared.circuit.Item.TheVariants.{OfGate}
use Rattle.circuit_text.specs.declared.fault.AigerKind.{AigerKind}
use Rattle.circuit_text.specs.declared.fault.AigerKind.TheVariants as kinds
use Rattle.circuit_text.specs.declared.fault.Location.{Location}
use Rattle.circuit_text.specs.declared.header.Header.{Header}
use Rattle.circuit_text.specs.declared.spot.Line.TheVariants as lines
use Rattle.circuit_text.specs.declared.spot.Spot.{Spot}
use Rattle.circuit_text.specs.declared.spot.Place.TheVariants.{First, Line, LineStart, Own, Second}
use Rattle.circuit_text.specs.declared.spot.After.TheVariants.{Next, Stops}
use Rattle.circuit_text.specs.automaton.Aigers.{Says, outcome_at}
use Rattle.circuit_text.specs.automaton.Items.{with_item}
use Rattle.circuit_text.specs.Circuits.{Circuit}
use Rattle.circuit_text.specs.automaton.Headers.{lit_said, place_at}
use Rattle.circuit_text.specs.automaton.Places.{first_read, first_said, in_first, in_own, in_second, is_space, item_read, location, next_item, next_line, own_said, second_read, second_said}
use Rattle.circuit_text.specs.Written.{Each, GateLine, InputLines, Is, IsSized, LatchLine, LitLine, Number, OwnLatchLine, Rest, TextForm, Then, maximum}
use Rattle.circuit_text.specs.Written as written
use Rattle.circuit_text.proofs.WrittenHeaders.{header, header_of, if_off, if_on, not_le_read}
use Rattle.circuit_text.proofs.WrittenItems.{add_all, add_gate, add_latch, gate_is, item_at, lit_ok, next_is, var_ok}
use Rattle.circuit_text.proofs.WrittenNumbers.{DigitsRead, at, digits_back, onward, saturated_number}
use Rattle.circuit_text.specs.declared.header.Form.TheVariants as forms
use Rattle.circuit_text.specs.declared.spot.Own as own_kinds
use Rattle.circuit_text.specs.declared.spot.Own.TheVariants as owns
use Rattle.circuit_text.specs.automaton.Items.{no_circuit}
use Rattle.circuit_text.specs.automaton.Headers.{all_lines, place_of}
use Rattle.circuit_text.proofs.WrittenHeadersBack.{HeaderRead, NumbersText, header_back}
use Rattle.circuit_text.proofs.WrittenWordsBack.{WordRead}
use Rattle.circuit_text.proofs.WrittenItemsBack.{ItemRead, ItemsRead, latch_line_back, lit_back, section_back}
use Rattle.circuit_text.proofs.WrittenRestsBack.{rest_back}
use Rattle.circuit_text.proofs.WrittenTextForm.{first_place, own_place, second_place}
use Rattle.circuit_text.proofs.WrittenWhole.{add_bad, add_constraint, add_output, all_added, gate_here, latch_here, not_lt, rest_here}
use Rattle.circuit_text.proofs.WrittenWholeBack.{IsSmall, LitLinesRead, lit_lines_back, lit_lines_then}

module _ (c r : Circuit) (h : Header) (few : h.maximum < 2 ^ 28) (line item : ℕ) (low : item < 2 ^ 32) where
  pub record OwnRead (own : own_kinds.Own) (v : ℕ) (text : List ℕ) : Type 0 where
    pub begun : List ℕ
    pub byte : ℕ
    pub more : List ℕ
    pub n : ℕ
    pub l : Location
    pub whole : text ≡ begun ++ byte ∷ more
    pub is : Number (2 * v) begun
    pub on : onward c l (own_said (at h line item (Own own v (Some n))) own v byte) more ≡ Says r

  own_back : (own : own_kinds.Own) (v : ℕ) (text : List ℕ) → v ≤ h.maximum → outcome_at c (at h line item (Own own v None)) text ≡ Says r → OwnRead own v text
  own_back own v text le e = by_digits (digits_back (λ w. Own own v w) (λ s d b. in_own s own v d b) (own_place own v) c h line item r None text e)
    where
      by_digits : DigitsRead (λ w. Own own v w) (λ s d b. in_own s own v d b) (own_place own v) c h line item None text r → OwnRead own v text
      by_digits d =
          let s = at h line item (Own own v (Some d.n)) in
          let t = if_on c r (location s) d.more (d.n == 2 * v) (own_said s own v d.byte) kinds.OtherOrder (rw (var_ok h v le few) at d.on) in
          let same : d.n ≡ 2 * v = eqb-true d.n (2 * v) t.0 in
          record {
            begun = d.begun;
            byte = d.byte;
            more = d.more;
            n = d.n;
            l = location s;
            whole = d.whole;
            is = saturated_number (2 * v) d.begun d.all (d.value ∙ ap (λ (n : ℕ). Some n) same) (omega (arith, le, few));
            on = t.1;
          }

  next_is_on : (x : Circuit) (line2 : ℕ) (more : List ℕ) → outcome_at x (item_at h line2 (dimacs.next_line item)) more ≡ Says r → outcome_at x (item_at h line2 (suc item)) more ≡ Says r
  next_is_on x line2 more e = subst (λ (n : ℕ). outcome_at x (item_at h line2 n) more ≡ Says r) (next_is item low) e

  -- the line of an input
  pub input_back : (v : ℕ) (text : List ℕ) → v ≤ h.maximum → place_at h item ≡ Own owns.Input v None → outcome_at c (item_at h line item) text ≡ Says r →
      (begun : List ℕ) × (more : List ℕ) × (line2 : ℕ) × (text ≡ begun ++ more) × Then (Number (2 * v)) (Is (10 ∷ [])) begun × (outcome_at c (item_at h line2 (suc item)) more ≡ Says r)
  input_back v text le here e =
      let d = own_back owns.Input v text le (subst (λ p. outcome_at c (at h line item p) text ≡ Says r) here e) in
      let t = if_on c r d.l d.more (is_lf d.byte) (Next (next_item (next_line (at h line item (Own owns.Input v (Some d.n)))))) kinds.Malformed d.on in (
        d.begun ++ 10 ∷ [],
        d.more,
        dimacs.next_line line,
        d.whole ∙ ap (λ (b : ℕ). d.begun ++ b ∷ d.more) (eqb-true d.byte 10 t.0) ∙ sym (append_assoc d.begun (10 ∷ []) d.more),
        record { before = d.begun; after = 10 ∷ []; whole = refl; begins = d.is; ends = refl },
        next_is_on c (dimacs.next_line line) d.more t.1,
      )

  pub own_latch_back : (v : ℕ) (text : List ℕ) → v ≤ h.maximum → place_at h item ≡ Own owns.Latch v None → outcome_at c (item_at h line item) text ≡ Says r →
      ItemRead (OwnLatchLine h.maximum) add_latch h r c v item text
  own_latch_back v text le here e =
      let d = own_back owns.Latch v text le (subst (λ p. outcome_at c (at h line item p) text ≡ Says r) here e) in
      let t = if_on c r d.l d.more (is_space d.byte) (Next (at h line item (Line (lines.Latch v) None))) kinds.Malformed d.on in
      let y = latch_line_back c r h few line item low v d.more le t.1 in
      record {
        x = y.x;
        begun = d.begun ++ 32 ∷ y.begun;
        more = y.more;
        line = y.line;
        whole = d.whole ∙ ap (λ (b : ℕ). d.begun ++ b ∷ d.more) (eqb-true d.byte 32 t.0) ∙ ap (λ (l : List ℕ). d.begun ++ 32 ∷ l) y.whole ∙ sym (append_assoc d.begun (32 ∷ y.begun) y.more);
        is = record { before = d.begun; after = 32 ∷ y.begun; whole = refl; begins = d.is; ends = record { before = 32 ∷ []; after = y.begun; whole = refl; begins = refl; ends = y.is } };
        on = y.on;
      }

  -- ---- gates

  first_read_back : (l : Location) (s : Spot) (v output : ℕ) (q : Result ℕ AigerKind) (b : ℕ) (more : List ℕ) → onward c l (first_read s v (Ok output) q b) more ≡ Says r →
      (left : ℕ) × (q ≡ Ok left) × (onward c l (first_said s v output left b) more ≡ Says r)
  first_read_back l s v output (Ok left) b more e = (left, refl, e)
  first_read_back l s v output (Err k) b more e = absurd cc

  second_read_back : (l : Location) (s : Spot) (output left : ℕ) (q : Result ℕ AigerKind) (b : ℕ) (more : List ℕ) → onward c l (second_read s (Ok output) (Ok left) q b) more ≡ Says r →
      (right : ℕ) × (q ≡ Ok right) × (onward c l (second_said s (record { output = output; left = left; right = right }) b) more ≡ Says r)
  second_read_back l s output left (Ok right) b more e = (right, refl, e)
  second_read_back l s output left (Err k) b more e = absurd cc

  -- a literal below a gate's own, before a space or an LF
  pub record BelowRead (v : ℕ) (end : ℕ) (text : List ℕ) (then_on : ℕ → List ℕ → Type 0) : Type 0 where
    pub l : ℕ
    pub begun : List ℕ
    pub more : List ℕ
    pub whole : text ≡ begun ++ end ∷ more
    pub is : Number l begun
    pub below : l < 2 * v
    pub on : then_on l more

  left_back : (v : ℕ) (text : List ℕ) → v ≤ h.maximum → outcome_at c (at h line item (First v None)) text ≡ Says r →
      BelowRead v 32 text (λ left more. outcome_at c (at h line item (Second v left None)) more ≡ Says r)
  left_back v text le e = by_digits (digits_back (λ w. First v w) (λ s d b. in_first s v d b) (first_place v) c h line item r None text e)
    where
      by_digits : DigitsRead (λ w. First v w) (λ s d b. in_first s v d b) (first_place v) c h line item None text r →
          BelowRead v 32 text (λ left more. outcome_at c (at h line item (Second v left None)) more ≡ Says r)
      by_digits d =
          let s = at h line item (First v (Some d.n)) in
          let f = first_read_back (location s) s v (2 * v) (lit_said h d.n) d.byte d.more (rw (var_ok h v le few) at d.on) in
          let range = lit_back h d.n f.0 f.1 in
          let below = if_off c r (location s) d.more (nat_le (2 * v) f.0) (if is_space d.byte then Next (at h line item (Second v f.0 None)) else Stops kinds.Malformed) kinds.LaterGate f.2 in
          let space = if_on c r (location s) d.more (is_space d.byte) (Next (at h line item (Second v f.0 None))) kinds.Malformed below.1 in
          let same : f.0 ≡ d.n = range.2 in
          let small = range.1 in
          record {
            l = d.n;
            begun = d.begun;
            more = d.more;
            whole = d.whole ∙ ap (λ (b : ℕ). d.begun ++ b ∷ d.more) (eqb-true d.byte 32 space.0);
            is = saturated_number d.n d.begun d.all d.value (omega (arith, small));
            below = subst (λ (n : ℕ). n < 2 * v) same (not_le_read (2 * v) f.0 below.0);
            on = subst (λ (n : ℕ). outcome_at c (at h line item (Second v n None)) d.more ≡ Says r) same space.1;
          }

  right_back : (v left : ℕ) (text : List ℕ) → v ≤ h.maximum → left < 2 * v → outcome_at c (at h line item (Second v left None)) text ≡ Says r →
      BelowRead v 10 text (λ right more. outcome_at (with_item c (OfGate (record { output = 2 * v; left = left; right = right }))) (item_at h (dimacs.next_line line) (dimacs.next_line item)) more ≡ Says r)
  right_back v left text le lt e = by_digits (digits_back (λ w. Second v left w) (λ s d b. in_second s v left d b) (second_place v left) c h line item r None text e)
    where
      by_digits : DigitsRead (λ w. Second v left w) (λ s d b. in_second s v left d b) (second_place v left) c h line item None text r →
          BelowRead v 10 text (λ right more. outcome_at (with_item c (OfGate (record { output = 2 * v; left = left; right = right }))) (item_at h (dimacs.next_line line) (dimacs.next_line item)) more ≡ Says r)
      by_digits d =
          let s = at h line item (Second v left (Some d.n)) in
          let left_lit : var_of left ≤ h.maximum = omega (arith, le, lt) in
          let f = second_read_back (location s) s (2 * v) left (lit_said h d.n) d.byte d.more (rw (var_ok h v le few, lit_ok h left left_lit few) at d.on) in
          let range = lit_back h d.n f.0 f.1 in
          let item_of = item_read s (OfGate (record { output = 2 * v; left = left; right = f.0 })) in
          let below = if_off c r (location s) d.more (nat_le (2 * v) f.0) (if is_lf d.byte then item_of else Stops kinds.Malformed) kinds.LaterGate f.2 in
          let ends = if_on c r (location s) d.more (is_lf d.byte) item_of kinds.Malformed below.1 in
          let same : f.0 ≡ d.n = range.2 in
          let small = range.1 in
          record {
            l = d.n;
            begun = d.begun;
            more = d.more;
            whole = d.whole ∙ ap (λ (b : ℕ). d.begun ++ b ∷ d.more) (eqb-true d.byte 10 ends.0);
            is = saturated_number d.n d.begun d.all d.value (omega (arith, small));
            below = subst (λ (n : ℕ). n < 2 * v) same (not_le_read (2 * v) f.0 below.0);
            on = subst (λ (n : ℕ). outcome_at (with_item c (OfGate (record { output = 2 * v; left = left; right = n }))) (item_at h (dimacs.next_line line) (dimacs.next_line item)) d.more ≡ Says r)
                same ends.1;
          }

  pub gate_line_back : (v : ℕ) (text : List ℕ) → v ≤ h.maximum → place_at h item ≡ Own owns.Gate v None → outcome_at c (item_at h line item) text ≡ Says r → ItemRead GateLine add_gate h r c v item text
  gate_line_back v text le here e =
      let d = own_back owns.Gate v text le (subst (λ p. outcome_at c (at h line item p) text ≡ Says r) here e) in
      let t = if_on c r d.l d.more (is_space d.byte) (Next (at h line item (First v None))) kinds.Malformed d.on in
      let a = left_back v d.more le t.1 in
      let b = right_back v a.l a.more le a.below a.on in
      record {
        x = record { var = v; left = a.l; right = b.l };
        begun = d.begun ++ 32 ∷ (a.begun ++ 32 ∷ (b.begun ++ 10 ∷ []));
        more = b.more;
        line = dimacs.next_line line;
        whole = d.whole ∙ ap (λ (z : ℕ). d.begun ++ z ∷ d.more) (eqb-true d.byte 32 t.0) ∙ ap (λ (z : List ℕ). d.begun ++ 32 ∷ z) (a.whole ∙ ap (λ (z : List ℕ). a.begun ++ 32 ∷ z) b.whole)
            ∙ regroup d.begun a.begun b.begun b.more;
        is = (
          refl,
          a.below,
          b.below,
          record {
            before = d.begun;
            after = 32 ∷ (a.begun ++ 32 ∷ (b.begun ++ 10 ∷ []));
            whole = refl;
            begins = d.is;
            ends = field a.l _ a.begun (32 ∷ (b.begun ++ 10 ∷ [])) a.is (field b.l _ b.begun (10 ∷ []) b.is refl);
          },
        );
        on = next_is_on (add_gate c (record { var = v; left = a.l; right = b.l })) (dimacs.next_line line) b.more
            (subst (λ (x : Circuit). outcome_at x (item_at h (dimacs.next_line line) (dimacs.next_line item)) b.more ≡ Says r) (gate_is v (record { var = v; left = a.l; right = b.l }) refl c) b.on);
      }
    where
      regroup : (x y z rest : List ℕ) → x ++ 32 ∷ (y ++ 32 ∷ (z ++ 10 ∷ rest)) ≡ (x ++ 32 ∷ (y ++ 32 ∷ (z ++ 10 ∷ []))) ++ rest
      regroup x y z rest = sym (simp append_assoc)

      field : (n : ℕ) (G : List ℕ → Type 0) (ds rest : List ℕ) → Number n ds → G rest → Then (written.Field n) G (32 ∷ (ds ++ rest))
      field n G ds rest is g = record { before = 32 ∷ ds; after = rest; whole = refl; begins = record { before = 32 ∷ []; after = ds; whole = refl; begins = refl; ends = is }; ends = g }

-- ---- inputs

module _ (h : Header) (r c : Circuit) where
  pub record InputsRead (n v item : ℕ) (text : List ℕ) : Type 0 where
    pub begun : List ℕ
    pub more : List ℕ
    pub line : ℕ
    pub whole : text ≡ begun ++ more
    pub is : InputLines v n begun
    pub on : outcome_at c (item_at h line item) more ≡ Says r

  inputs_back : (few : h.maximum < 2 ^ 28) (le : h.inputs ≤ h.maximum) (here : (k : ℕ) → k < h.inputs → place_at h k ≡ Own owns.Input (k + 1) None)
      (n line k v : ℕ) (text : List ℕ) → k + n ≡ h.inputs → v ≡ suc k → outcome_at c (item_at h line k) text ≡ Says r → InputsRead n v h.inputs text
  inputs_back few le here zero line k v text e ev on =
      let same : k ≡ h.inputs = omega arith in
      record { begun = []; more = text; line = line; whole = refl; is = refl; on = subst (λ (n : ℕ). outcome_at c (item_at h line n) text ≡ Says r) same on }
  inputs_back few le here (suc n) line k v text e ev on =
      let own : k + 1 ≡ v = omega arith in
      let d = input_back c r h few line k (omega arith) v text (omega arith) (here k (omega arith) ∙ ap (λ (n : ℕ). Own owns.Input n None) own) on in
      let rest = inputs_back few le here n d.2 (suc k) (suc v) d.1 (omega arith) (omega arith) d.5 in
      record {
        begun = d.0 ++ rest.begun;
        more = rest.more;
        line = rest.line;
        whole = d.3 ∙ ap (λ (l : List ℕ). d.0 ++ l) rest.whole ∙ sym (append_assoc d.0 rest.begun rest.more);
        is = record { before = d.0; after = rest.begun; whole = refl; begins = d.4; ends = rest.is };
        on = rest.on;
      }

-- ---- the whole

abbrev pub WrittenText : List ℕ → Circuit → Type 0
WrittenText text r = (x : Circuit) × IsSized x × TextForm x text × (r ≡ x)

-- the parts are put together
assemble : (r : Circuit) (text : List ℕ) (w : HeaderRead r forms.Text (codes "aag") text) →
    (ins : InputsRead (header forms.Text w.m w.i w.l w.o w.a w.b w.c) r no_circuit w.i 1 w.i w.more) →
    (ls : ItemsRead (OwnLatchLine w.m) add_latch (header forms.Text w.m w.i w.l w.o w.a w.b w.c) r no_circuit w.l (suc w.i) (w.i + w.l) ins.more) →
    (small : IsSmall (header forms.Text w.m w.i w.l w.o w.a w.b w.c)) → (z : w.i < 2 ^ 28) →
    (off : (j : ℕ) → place_at (header forms.Text w.m w.i w.l w.o w.a w.b w.c) (w.i + j) ≡ place_of (header forms.Text w.m w.i w.l w.o w.a w.b w.c) j) →
    (ms : LitLinesRead (header forms.Text w.m w.i w.l w.o w.a w.b w.c) r small w.i z off (add_all add_latch no_circuit ls.xs) ls.more) →
    (gs : ItemsRead GateLine add_gate (header forms.Text w.m w.i w.l w.o w.a w.b w.c) r
    (add_all add_constraint (add_all add_bad (add_all add_output (add_all add_latch no_circuit ls.xs) ms.outputs) ms.bad) ms.constraints)
    w.a (suc (w.i + w.l)) (w.i + all_lines (header forms.Text w.m w.i w.l w.o w.a w.b w.c) + w.a) ms.more) → WrittenText text r
assemble r text w ins ls small z off ms gs =
    let x : Circuit = record { inputs = w.i; latches = ls.xs; outputs = ms.outputs; bad = ms.bad; constraints = ms.constraints; gates = gs.xs } in
    let em : w.m ≡ maximum x = w.sum ∙ ap (λ (n : ℕ). w.i + n + w.a) (sym ls.count) ∙ ap (λ (n : ℕ). w.i + length ls.xs + n) (sym gs.count) in
    let same : header forms.Text w.m w.i w.l w.o w.a w.b w.c ≡ header_of forms.Text x =
    ap (λ (n : ℕ). header forms.Text n w.i w.l w.o w.a w.b w.c) em
    ∙ ap (λ (n : ℕ). header forms.Text (maximum x) w.i n w.o w.a w.b w.c) (sym ls.count)
    ∙ ap (λ (n : ℕ). header forms.Text (maximum x) w.i (length ls.xs) n w.a w.b w.c) (sym ms.count_outputs)
    ∙ ap (λ (n : ℕ). header forms.Text (maximum x) w.i (length ls.xs) (length ms.outputs) n w.b w.c) (sym gs.count)
    ∙ ap (λ (n : ℕ). header forms.Text (maximum x) w.i (length ls.xs) (length ms.outputs) (length gs.xs) n w.c) (sym ms.count_bad)
    ∙ ap (λ (n : ℕ). header forms.Text (maximum x) w.i (length ls.xs) (length ms.outputs) (length gs.xs) (length ms.bad) n) (sym ms.count_constraints) in
    let sized : IsSized x = record {
      variables = subst (λ (n : ℕ). n < 2 ^ 28) em w.few;
      outputs = subst (λ (n : ℕ). n < 2 ^ 28) (sym ms.count_outputs) w.outputs;
      bad = subst (λ (n : ℕ). n < 2 ^ 28) (sym ms.count_bad) w.bad;
      constraints = subst (λ (n : ℕ). n < 2 ^ 28) (sym ms.count_constraints) w.constraints;
    } in
    let all = add_all add_gate (add_all add_constraint (add_all add_bad (add_all add_output (add_all add_latch no_circuit ls.xs) ms.outputs) ms.bad) ms.constraints) gs.xs in
    let item = w.i + all_lines (header forms.Text w.m w.i w.l w.o w.a w.b w.c) + w.a in
    let start_on : outcome_at all (at (header forms.Text w.m w.i w.l w.o w.a w.b w.c) gs.line item LineStart) gs.more ≡ Says r =
    subst (λ p. outcome_at all (at (header forms.Text w.m w.i w.l w.o w.a w.b w.c) gs.line item p) gs.more ≡ Says r) (ap (place_at (header forms.Text w.m w.i w.l w.o w.a w.b w.c)) (omega arith) ∙ off (all_lines (header forms.Text w.m w.i w.l w.o w.a w.b w.c) + w.a) ∙ rest_here (header forms.Text w.m w.i w.l w.o w.a w.b w.c)) gs.on in
    let rest = rest_back forms.Text x all r sized item (length gs.more) gs.line gs.more (omega arith)
    (subst (λ h. outcome_at all (at h gs.line item LineStart) gs.more ≡ Says r) same start_on) in
    let numbers0 = subst (λ (n : ℕ). NumbersText (codes "aag") n w.i w.l w.o w.a (w.b ∷ w.c ∷ 0 ∷ 0 ∷ []) w.begun) em w.is in
    let numbers1 = subst (λ (n : ℕ). NumbersText (codes "aag") (maximum x) w.i n w.o w.a (w.b ∷ w.c ∷ 0 ∷ 0 ∷ []) w.begun) (sym ls.count) numbers0 in
    let numbers2 = subst (λ (n : ℕ). NumbersText (codes "aag") (maximum x) w.i (length ls.xs) n w.a (w.b ∷ w.c ∷ 0 ∷ 0 ∷ []) w.begun) (sym ms.count_outputs) numbers1 in
    let numbers3 = subst (λ (n : ℕ). NumbersText (codes "aag") (maximum x) w.i (length ls.xs) (length ms.outputs) n (w.b ∷ w.c ∷ 0 ∷ 0 ∷ []) w.begun) (sym gs.count) numbers2 in
    let numbers4 = subst (λ (n : ℕ). NumbersText (codes "aag") (maximum x) w.i (length ls.xs) (length ms.outputs) (length gs.xs) (n ∷ w.c ∷ 0 ∷ 0 ∷ []) w.begun) (sym ms.count_bad) numbers3 in
    let numbers5 = subst (λ (n : ℕ). NumbersText (codes "aag") (maximum x) w.i (length ls.xs) (length ms.outputs) (length gs.xs) (length ms.bad ∷ n ∷ 0 ∷ 0 ∷ []) w.begun) (sym ms.count_constraints) numbers4 in
    let gates_are : Then (Each GateLine (suc (w.i + length ls.xs)) gs.xs) (Rest x) ms.more =
    record { before = gs.begun; after = gs.more; whole = gs.whole; begins = subst (λ (n : ℕ). Each GateLine (suc (w.i + n)) gs.xs gs.begun) (sym ls.count) gs.is; ends = rest.is } in (
      x,
      sized,
      record {
        before = w.begun;
        after = w.more;
        whole = w.whole;
        begins = numbers5;
        ends = record {
          before = ins.begun;
          after = ins.more;
          whole = ins.whole;
          begins = ins.is;
          ends = record {
            before = ls.begun;
            after = ls.more;
            whole = ls.whole;
            begins = subst (λ (n : ℕ). Each (OwnLatchLine n) (suc w.i) ls.xs ls.begun) em ls.is;
            ends = subst (λ (n : ℕ). Then (Each (LitLine n) 0 ms.outputs) (Then (Each (LitLine n) 0 ms.bad) (Then (Each (LitLine n) 0 ms.constraints) (Then (Each GateLine (suc (w.i + length ls.xs)) gs.xs) (Rest x)))) ls.more)
                em (lit_lines_then (header forms.Text w.m w.i w.l w.o w.a w.b w.c) r small w.i z off (add_all add_latch no_circuit ls.xs) ls.more ms (Then (Each GateLine (suc (w.i + length ls.xs)) gs.xs) (Rest x)) gates_are);
          };
        };
      },
      rest.same ∙ ap (λ (c : Circuit). record c { inputs = w.i }) (all_added x),
    )

input_place : (h : Header) → h.form ≡ forms.Text → (k : ℕ) → k < h.inputs → place_at h k ≡ Own owns.Input (k + 1) None
input_place h e k lt = rw (e, lt-ltb k h.inputs lt) refl

text_place : (h : Header) → h.form ≡ forms.Text → (j : ℕ) → place_at h (h.inputs + j) ≡ place_of h j
text_place h e j = let less : h.inputs + j - h.inputs ≡ j = omega arith in rw (e, not_lt (h.inputs + j) h.inputs (omega arith), less) refl

pub text_is_written : (r : Circuit) (text : List ℕ) → WordRead r forms.Text (codes "aag") text → WrittenText text r
text_is_written r text word = by_header (header_back r forms.Text (codes "aag") text word)
  where
    by_header : HeaderRead r forms.Text (codes "aag") text → WrittenText text r
    by_header w =
        let h = header forms.Text w.m w.i w.l w.o w.a w.b w.c in
        let sum = w.sum in let few = w.few in let outs = w.outputs in let bads = w.bad in let cons = w.constraints in
        let small : IsSmall h = record { sum = w.sum; few = w.few; outputs = w.outputs; bad = w.bad; constraints = w.constraints } in
        let off : (j : ℕ) → place_at h (w.i + j) ≡ place_of h j = λ j. text_place h refl j in
        let low_inputs : w.i < 2 ^ 28 = omega (arith, sum, few) in
        let ins = inputs_back h r no_circuit w.few (omega (arith, sum)) (λ k lt. input_place h refl k lt) w.i w.line 0 1 w.more (omega arith) refl w.on in
        let ls = section_back (OwnLatchLine w.m) add_latch h r w.i (suc w.i) w.l
        (λ c line k v item text lt ev ei on.
        let same : w.i + 1 + k ≡ v = omega (arith, ev) in
        own_latch_back c r h w.few line item (omega (arith, ei, lt, sum, few)) v text (omega (arith, ev, lt, sum)) (ap (place_at h) ei ∙ off k ∙ latch_here h k lt ∙ ap (λ (n : ℕ). Own owns.Latch n None) same) on)
        w.l no_circuit ins.line 0 (suc w.i) w.i ins.more (omega arith) (omega arith) (omega arith) ins.on in
        let ls_on : outcome_at (add_all add_latch no_circuit ls.xs) (item_at h ls.line (w.i + w.l)) ls.more ≡ Says r = ls.on in
        let ms = lit_lines_back h r small w.i low_inputs off (add_all add_latch no_circuit ls.xs) ls.line ls.more ls_on in
        let with_lit_lines = add_all add_constraint (add_all add_bad (add_all add_output (add_all add_latch no_circuit ls.xs) ms.outputs) ms.bad) ms.constraints in
        let gates_on : outcome_at with_lit_lines (item_at h ms.line (w.i + all_lines h)) ms.more ≡ Says r = ms.on in
        let gs = section_back GateLine add_gate h r (w.i + all_lines h) (suc (w.i + w.l)) w.a
        (λ c line k v item text lt ev ei on.
        let e : item ≡ w.i + (all_lines h + k) = omega (arith, ei) in
        let same : w.i + w.l + 1 + k ≡ v = omega (arith, ev) in
        gate_line_back c r h w.few line item (omega (arith, ei, lt, sum, few, outs, bads, cons)) v text (omega (arith, ev, lt, sum)) (ap (place_at h) e ∙ off (all_lines h + k) ∙ gate_here h k lt ∙ ap (λ (n : ℕ). Own owns.Gate n None) same) on)
        w.a with_lit_lines ms.line 0 (suc (w.i + w.l)) (w.i + all_lines h) ms.more (omega arith) (omega arith) (omega arith) gates_on in
        assemble r text w ins ls small low_inputs off ms gs
