-- Latches, outputs and gates that are read: of which texts they are.
use Rattle.std.proofs.Common.{◌≡◌, ℕ, zero, suc, ◌+◌, ◌-◌, ◌*◌, ◌^◌, ◌<◌, ◌≤◌, Bool, true, false, List, [], ◌∷◌, ◌++◌, length, Some, Ok, Err, refl, sym, ap, subst, ◌∙◌, append_assoc, inl, inr, arith}
use Rattle.std.specs.Prelude.{Option, None, Result, ◌&&◌, ◌==◌, nat_lt, nat_le, if◌then◌else◌}
use Rattle.std.proofs.lemmas.Bool.{cases_Bool, eqb-true, leb-true, ltb-true}
use Rattle.sat_rules.specs.Clauses.{var_of}
use Rattle.sat_formula.specs.Bytes.{is_lf}
use Rattle.sat_formula.specs.Outcome as dimacs
use Rattle.circuit_text.specs.declared.circuit.Item.{Item}
use Rattle.circuit_text.specs.declared.circuit.Item.TheVariants.{OfLatch, OfGate}
use Rattle.circuit_text.specs.declared.fault.AigerKind.{AigerKind}
use Rattle.circuit_text.specs.declared.fault.AigerKind.TheVariants as kinds
use Rattle.circuit_text.specs.declared.fault.Location.{Location}
use Rattle.circuit_text.specs.declared.header.Header.{Header}
use Rattle.circuit_text.specs.declared.spot.Line as line_kinds
use Rattle.circuit_text.specs.declared.spot.Line.TheVariants as lines
use Rattle.circuit_text.specs.declared.spot.Spot.{Spot}
use Rattle.circuit_text.specs.declared.spot.Place.TheVariants.{Line, Reset, Left, Right}
use Rattle.circuit_text.specs.declared.spot.After.TheVariants.{Next, Stops}
use Rattle.circuit_text.specs.automaton.Aigers.{Says, outcome_at}
use Rattle.circuit_text.specs.automaton.Items.{with_item}
use Rattle.circuit_text.specs.Circuits.{Circuit}
use Rattle.circuit_text.specs.automaton.Headers.{lit_said, place_at, reset_said}
use Rattle.circuit_text.specs.automaton.Places.{gate_said, in_left, in_line, in_reset, in_right, item_read, latch_said, left_said, line_lit, lit_less, lit_read, location, moved, next_item}
use Rattle.circuit_text.specs.Written.{Each, GateBytes, Groups, Is, LatchLine, LitLine, Number, Then, reset_code}
use Rattle.circuit_text.specs.Written as written
use Rattle.circuit_text.proofs.WrittenHeaders.{if_on}
use Rattle.circuit_text.proofs.WrittenItems.{add_all, add_gate, add_latch, gate_is, item_at, latch_is, left_place, line_place, lit_ok, next_is, reset_place, right_place, var_ok}
use Rattle.circuit_text.proofs.WrittenNumbers.{DigitsRead, GroupsRead, and_left, and_right, at, digits_back, groups_back, onward, saturated_number}

-- ---- lists of items

module _ {A : Type 0} (form : ℕ → A → List ℕ → Type 0) (add : Circuit → A → Circuit) (h : Header) (r : Circuit) where
  -- one item was read
  pub record ItemRead (c : Circuit) (v item : ℕ) (text : List ℕ) : Type 0 where
    pub x : A
    pub begun : List ℕ
    pub more : List ℕ
    pub line : ℕ
    pub whole : text ≡ begun ++ more
    pub is : form v x begun
    pub on : outcome_at (add c x) (item_at h line (suc item)) more ≡ Says r

  -- n of them were read
  pub record ItemsRead (c : Circuit) (n v item : ℕ) (text : List ℕ) : Type 0 where
    pub xs : List A
    pub begun : List ℕ
    pub more : List ℕ
    pub line : ℕ
    pub count : length xs ≡ n
    pub whole : text ≡ begun ++ more
    pub is : Each form v xs begun
    pub on : outcome_at (add_all add c xs) (item_at h line item) more ≡ Says r

  pub section_back : (first v0 count : ℕ)
      (one : (c : Circuit) (line k v item : ℕ) (text : List ℕ) → k < count → v ≡ v0 + k → item ≡ first + k → outcome_at c (item_at h line item) text ≡ Says r → ItemRead c v item text)
      (n : ℕ) (c : Circuit) (line k v item : ℕ) (text : List ℕ) → k + n ≡ count → v ≡ v0 + k → item ≡ first + k → outcome_at c (item_at h line item) text ≡ Says r →
      ItemsRead c n v (first + count) text
  section_back first v0 count one zero c line k v item text e ev ei on =
      let same : item ≡ first + count = omega arith in
      record { xs = []; begun = []; more = text; line = line; count = refl; whole = refl; is = refl; on = subst (λ (z : ℕ). outcome_at c (item_at h line z) text ≡ Says r) same on }
  section_back first v0 count one (suc n) c line k v item text e ev ei on =
      let d = one c line k v item text (omega arith) ev ei on in
      let rest = section_back first v0 count one n (add c d.x) d.line (suc k) (suc v) (suc item) d.more (omega arith) (omega arith) (omega arith) d.on in
      record {
        xs = d.x ∷ rest.xs;
        begun = d.begun ++ rest.begun;
        more = rest.more;
        line = rest.line;
        count = ap (λ (z : ℕ). suc z) rest.count;
        whole = d.whole ∙ ap (λ (l : List ℕ). d.begun ++ l) rest.whole ∙ sym (append_assoc d.begun rest.begun rest.more);
        is = record { before = d.begun; after = rest.begun; whole = refl; begins = d.is; ends = rest.is };
        on = rest.on;
      }

-- ---- literals

abbrev ok_lit : ℕ → Result ℕ AigerKind
ok_lit l = Ok l

abbrev ok_reset : Option Bool → Result (Option Bool) AigerKind
ok_reset o = Ok o

pub lit_back : (h : Header) (l m : ℕ) → lit_said h l ≡ Ok m → (var_of l ≤ h.maximum) × (l < 2 ^ 29) × (m ≡ l)
lit_back h l m e = by_test (nat_lt l (2 ^ 29) && nat_le (var_of l) h.maximum) refl e
  where
    by_test : (q : Bool) → (nat_lt l (2 ^ 29) && nat_le (var_of l) h.maximum) ≡ q → (if q then ok_lit l else Err kinds.LiteralOutOfRange) ≡ Ok m →
        (var_of l ≤ h.maximum) × (l < 2 ^ 29) × (m ≡ l)
    by_test true is p =
        (leb-true (var_of l) h.maximum (and_right (nat_lt l (2 ^ 29)) (nat_le (var_of l) h.maximum) is), ltb-true l (2 ^ 29) (and_left (nat_lt l (2 ^ 29)) (nat_le (var_of l) h.maximum) is), cc)
    by_test false is p = absurd cc

pub reset_back : (v w : ℕ) (o : Option Bool) → reset_said (2 * v) w ≡ Ok o → reset_code o (2 * v) ≡ w
reset_back v w o e = by_zero (w == 0) refl e
  where
    ok_is : (a b : Option Bool) → ok_reset a ≡ Ok b → b ≡ a
    ok_is a b p = cc

    by_own : (q : Bool) → (w == 2 * v) ≡ q → (if q then ok_reset None else Err kinds.WrongReset) ≡ Ok o → reset_code o (2 * v) ≡ w
    by_own true is p = ap (λ (z : Option Bool). reset_code z (2 * v)) (ok_is None o p) ∙ sym (eqb-true w (2 * v) is)
    by_own false is p = absurd cc

    by_one : (q : Bool) → (w == 1) ≡ q → (if q then ok_reset (Some true) else (if w == 2 * v then Ok None else Err kinds.WrongReset)) ≡ Ok o → reset_code o (2 * v) ≡ w
    by_one true is p = ap (λ (z : Option Bool). reset_code z (2 * v)) (ok_is (Some true) o p) ∙ sym (eqb-true w 1 is)
    by_one false is p = by_own (w == 2 * v) refl p

    by_zero : (q : Bool) → (w == 0) ≡ q →
        (if q then ok_reset (Some false) else (if w == 1 then Ok (Some true) else (if w == 2 * v then Ok None else Err kinds.WrongReset))) ≡ Ok o → reset_code o (2 * v) ≡ w
    by_zero true is p = ap (λ (z : Option Bool). reset_code z (2 * v)) (ok_is (Some false) o p) ∙ sym (eqb-true w 0 is)
    by_zero false is p = by_one (w == 1) refl p

pub less_read : (a n left : ℕ) → lit_less a n ≡ Some left → (n ≤ a) × (left ≡ a - n)
less_read a n left e = by_test (nat_le n a) refl e
  where
    by_test : (q : Bool) → nat_le n a ≡ q → (if q then Some (a - n) else None) ≡ Some left → (n ≤ a) × (left ≡ a - n)
    by_test true is p = (leb-true n a is, cc)
    by_test false is p = absurd cc

module _ (c r : Circuit) where
  line_lit_back : (l : Location) (s : Spot) (kind : line_kinds.Line) (q : Result ℕ AigerKind) (b : ℕ) (more : List ℕ) → onward c l (line_lit s kind q b) more ≡ Says r →
      (m : ℕ) × (q ≡ Ok m) × (onward c l (lit_read s kind m b) more ≡ Says r)
  line_lit_back l s kind (Ok m) b more e = (m, refl, e)
  line_lit_back l s kind (Err k) b more e = absurd cc

  latch_said_back : (l : Location) (s : Spot) (output next : ℕ) (q : Result (Option Bool) AigerKind) (more : List ℕ) → onward c l (latch_said s output next q) more ≡ Says r →
      (o : Option Bool) × (q ≡ Ok o) × (onward c l (item_read s (OfLatch (record { output = output; next = next; reset = o }))) more ≡ Says r)
  latch_said_back l s output next (Ok o) more e = (o, refl, e)
  latch_said_back l s output next (Err k) more e = absurd cc

  left_said_back : (l : Location) (s : Spot) (v less : ℕ) (q : Option ℕ) (more : List ℕ) → onward c l (left_said s v q less) more ≡ Says r →
      (left : ℕ) × (q ≡ Some left) × (0 < less) × (outcome_at c (moved s (Right v left 0 1)) more ≡ Says r)
  left_said_back l s v less None more e = absurd cc
  left_said_back l s v less (Some left) more e =
      let t = if_on c r l more (nat_lt 0 less) (Next (moved s (Right v left 0 1))) kinds.GateOrder e in (left, refl, ltb-true 0 less t.0, t.1)

  gate_said_back : (l : Location) (s : Spot) (output left : ℕ) (q : Option ℕ) (more : List ℕ) → onward c l (gate_said s output left q) more ≡ Says r →
      (right : ℕ) × (q ≡ Some right) × (outcome_at (with_item c (OfGate (record { output = output; left = left; right = right }))) (next_item s) more ≡ Says r)
  gate_said_back l s output left None more e = absurd cc
  gate_said_back l s output left (Some right) more e = (right, refl, e)

  module _ (h : Header) (few : h.maximum < 2 ^ 28) (line item : ℕ) (low : item < 2 ^ 32) where
    -- the first number of a line
    pub record LitRead (kind : line_kinds.Line) (text : List ℕ) : Type 0 where
      pub l : ℕ
      pub begun : List ℕ
      pub byte : ℕ
      pub more : List ℕ
      pub at_l : Location
      pub whole : text ≡ begun ++ byte ∷ more
      pub is : written.Lit h.maximum l begun
      pub on : onward c at_l (lit_read (at h line item (Line kind (Some l))) kind l byte) more ≡ Says r

    lit_line_back : (kind : line_kinds.Line) (text : List ℕ) → outcome_at c (at h line item (Line kind None)) text ≡ Says r → LitRead kind text
    lit_line_back kind text e = by_digits (digits_back (λ v. Line kind v) (λ s d b. in_line s kind d b) (line_place kind) c h line item r None text e)
      where
        by_digits : DigitsRead (λ v. Line kind v) (λ s d b. in_line s kind d b) (line_place kind) c h line item None text r → LitRead kind text
        by_digits d =
            let w = line_lit_back (location (at h line item (Line kind (Some d.n)))) (at h line item (Line kind (Some d.n))) kind (lit_said h d.n) d.byte d.more d.on in
            let range = lit_back h d.n w.0 w.1 in
            let small = range.1 in
            record {
              l = d.n;
              begun = d.begun;
              byte = d.byte;
              more = d.more;
              at_l = location (at h line item (Line kind (Some d.n)));
              whole = d.whole;
              is = (range.0, saturated_number d.n d.begun d.all d.value (omega (arith, small)));
              on = subst (λ (m : ℕ). onward c (location (at h line item (Line kind (Some d.n)))) (lit_read (at h line item (Line kind (Some d.n))) kind m d.byte) d.more ≡ Says r) range.2 w.2;
            }

    next_on : (x : Circuit) (line2 : ℕ) (more : List ℕ) → outcome_at x (item_at h line2 (dimacs.next_line item)) more ≡ Says r → outcome_at x (item_at h line2 (suc item)) more ≡ Says r
    next_on x line2 more e = subst (λ (n : ℕ). outcome_at x (item_at h line2 n) more ≡ Says r) (next_is item low) e

    pub lit_item_back : (kind : line_kinds.Line) (item_of : ℕ → Item) (v : ℕ) (text : List ℕ) →
        ((s : Spot) (l b : ℕ) → lit_read s kind l b ≡ (if is_lf b then item_read s (item_of l) else Stops kinds.Malformed)) → place_at h item ≡ Line kind None →
        outcome_at c (item_at h line item) text ≡ Says r → ItemRead (LitLine h.maximum) (λ c l. with_item c (item_of l)) h r c v item text
    lit_item_back kind item_of v text reads here e =
        let d = lit_line_back kind text (subst (λ p. outcome_at c (at h line item p) text ≡ Says r) here e) in
        let s = at h line item (Line kind (Some d.l)) in
        let t = if_on c r d.at_l d.more (is_lf d.byte) (item_read s (item_of d.l)) kinds.Malformed (subst (λ a. onward c d.at_l a d.more ≡ Says r) (reads s d.l d.byte) d.on) in
        record {
          x = d.l;
          begun = d.begun ++ 10 ∷ [];
          more = d.more;
          line = dimacs.next_line line;
          whole = d.whole ∙ ap (λ (b : ℕ). d.begun ++ b ∷ d.more) (eqb-true d.byte 10 t.0) ∙ sym (append_assoc d.begun (10 ∷ []) d.more);
          is = record { before = d.begun; after = 10 ∷ []; whole = refl; begins = d.is; ends = refl };
          on = next_on (with_item c (item_of d.l)) (dimacs.next_line line) d.more t.1;
        }

    -- a latch
    latch_given : (v next : ℕ) (o : Option Bool) (begun more : List ℕ) (line2 : ℕ) (text : List ℕ) → text ≡ begun ++ more →
        LatchLine h.maximum v (record { var = v; next = next; reset = o }) begun →
        outcome_at (with_item c (OfLatch (record { output = 2 * v; next = next; reset = o }))) (item_at h line2 (dimacs.next_line item)) more ≡ Says r →
        ItemRead (LatchLine h.maximum) add_latch h r c v item text
    latch_given v next o begun more line2 text whole is e = record {
      x = record { var = v; next = next; reset = o };
      begun = begun;
      more = more;
      line = line2;
      whole = whole;
      is = is;
      on = next_on (add_latch c (record { var = v; next = next; reset = o })) line2 more
          (subst (λ (x : Circuit). outcome_at x (item_at h line2 (dimacs.next_line item)) more ≡ Says r) (latch_is v (record { var = v; next = next; reset = o }) refl c) e);
    }

    pub latch_line_back : (v : ℕ) (text : List ℕ) → v ≤ h.maximum →
        outcome_at c (at h line item (Line (lines.Latch v) None)) text ≡ Says r → ItemRead (LatchLine h.maximum) add_latch h r c v item text
    latch_line_back v text le e = by_line (lit_line_back (lines.Latch v) text e)
      where
        -- its reset is left out
        short : (d : LitRead (lines.Latch v) text) → (d.byte == 32) ≡ false → ItemRead (LatchLine h.maximum) add_latch h r c v item text
        short d other =
            let s = at h line item (Line (lines.Latch v) (Some d.l)) in
            let on = rw (other, var_ok h v le few) at d.on in
            let t = if_on c r d.at_l d.more (is_lf d.byte) (item_read s (OfLatch (record { output = 2 * v; next = d.l; reset = Some false }))) kinds.Malformed on in
            latch_given v d.l (Some false) (d.begun ++ 10 ∷ []) d.more (dimacs.next_line line) text
            (d.whole ∙ ap (λ (b : ℕ). d.begun ++ b ∷ d.more) (eqb-true d.byte 10 t.0) ∙ sym (append_assoc d.begun (10 ∷ []) d.more))
            (refl, record { before = d.begun; after = 10 ∷ []; whole = refl; begins = d.is; ends = inl (refl, refl) }) t.1

        with_reset : (d : LitRead (lines.Latch v) text) → d.byte ≡ 32 →
            DigitsRead (λ w. Reset v d.l w) (λ s n b. in_reset s v d.l n b) (reset_place v d.l) c h line item None d.more r → ItemRead (LatchLine h.maximum) add_latch h r c v item text
        with_reset d space p =
            let s = at h line item (Reset v d.l (Some p.n)) in
            let at_l = location s in
            let on = rw (lit_ok h d.l d.is.0 few, var_ok h v le few) at p.on in
            let t = if_on c r at_l p.more (is_lf p.byte) (latch_said s (2 * v) d.l (reset_said (2 * v) p.n)) kinds.Malformed on in
            let o = latch_said_back at_l s (2 * v) d.l (reset_said (2 * v) p.n) p.more t.1 in
            let code = reset_back v p.n o.0 o.1 in
            let number : Number (reset_code o.0 (2 * v)) p.begun = saturated_number (reset_code o.0 (2 * v)) p.begun p.all (p.value ∙ ap (λ (n : ℕ). Some n) (sym code)) (reset_small o.0) in
            latch_given v d.l o.0 (d.begun ++ 32 ∷ (p.begun ++ 10 ∷ [])) p.more (dimacs.next_line line) text
            (d.whole ∙ ap (λ (b : ℕ). d.begun ++ b ∷ d.more) space ∙ ap (λ (z : List ℕ). d.begun ++ 32 ∷ z) (p.whole ∙ ap (λ (b : ℕ). p.begun ++ b ∷ p.more) (eqb-true p.byte 10 t.0))
            ∙ regroup d.begun p.begun p.more) (
              refl,
              record {
                before = d.begun;
                after = 32 ∷ (p.begun ++ 10 ∷ []);
                whole = refl;
                begins = d.is;
                ends = inr (record {
                  before = 32 ∷ p.begun;
                  after = 10 ∷ [];
                  whole = refl;
                  begins = record { before = 32 ∷ []; after = p.begun; whole = refl; begins = refl; ends = number };
                  ends = refl;
                });
              },
            ) o.2
          where
            regroup : (a b z : List ℕ) → a ++ 32 ∷ (b ++ 10 ∷ z) ≡ (a ++ 32 ∷ (b ++ 10 ∷ [])) ++ z
            regroup a b z = sym (append_assoc a (32 ∷ (b ++ 10 ∷ [])) z ∙ ap (λ (l : List ℕ). a ++ 32 ∷ l) (append_assoc b (10 ∷ []) z))

            reset_small : (o : Option Bool) → reset_code o (2 * v) < 2 ^ 31
            reset_small (Some false) = omega arith
            reset_small (Some true) = omega arith
            reset_small None = omega (arith, le, few)

        by_line : LitRead (lines.Latch v) text → ItemRead (LatchLine h.maximum) add_latch h r c v item text
        by_line d = elim (cases_Bool (d.byte == 32)) [
          | inl space ↦ with_reset d (eqb-true d.byte 32 space)
              (digits_back (λ w. Reset v d.l w) (λ s n b. in_reset s v d.l n b) (reset_place v d.l) c h line item r None d.more (rw space at d.on))
          | inr other ↦ short d other
        ]

    pub latch_back : (v : ℕ) (text : List ℕ) → v ≤ h.maximum → place_at h item ≡ Line (lines.Latch v) None →
        outcome_at c (item_at h line item) text ≡ Says r → ItemRead (LatchLine h.maximum) add_latch h r c v item text
    latch_back v text le here e = latch_line_back v text le (subst (λ p. outcome_at c (at h line item p) text ≡ Says r) here e)

    -- a gate of the binary form
    pub gate_back : (v : ℕ) (text : List ℕ) → v ≤ h.maximum → place_at h item ≡ Left v 0 1 →
        outcome_at c (item_at h line item) text ≡ Says r → ItemRead GateBytes add_gate h r c v item text
    gate_back v text le here e = by_left (groups_back (λ x w. Left v x w) (λ s n. in_left s v n) (left_place v) c h line item r 4 0 text (omega arith) (omega arith)
        (subst (λ p. outcome_at c (at h line item p) text ≡ Says r) here e))
      where
        unit : (n : ℕ) → 0 + n * 1 ≡ n
        unit n = omega arith

        by_right : (d : GroupsRead (λ x w. Left v x w) (λ s n. in_left s v n) (left_place v) c h line item 4 0 text r) (left : ℕ) → d.n ≤ 2 * v → 0 < d.n → left ≡ 2 * v - d.n →
            GroupsRead (λ x w. Right v left x w) (λ s n. in_right s v left n) (right_place v left) c h line item 4 0 d.more r → ItemRead GateBytes add_gate h r c v item text
        by_right d left low_d some is_left p =
            let left_lit : var_of left ≤ h.maximum = omega arith in
            let s = at h line item (Right v left p.x p.w) in
            let on = rw (unit p.n, lit_ok h left left_lit few, var_ok h v le few) at p.on in
            let g = gate_said_back (location s) s (2 * v) left (lit_less left p.n) p.more on in
            let right = less_read left p.n g.0 g.1 in
            let first : 2 * v - left ≡ d.n = omega (arith, low_d, is_left) in
            let second : left - g.0 ≡ p.n = omega (arith, right.0, right.1) in
            let below : g.0 ≤ left = omega (arith, right.1) in
            record {
              x = record { var = v; left = left; right = g.0 };
              begun = d.bytes ++ p.bytes;
              more = p.more;
              line = line;
              whole = d.whole ∙ ap (λ (z : List ℕ). d.bytes ++ z) p.whole ∙ sym (append_assoc d.bytes p.bytes p.more);
              is = (
                refl,
                omega arith,
                below,
                record {
                  before = d.bytes;
                  after = p.bytes;
                  whole = refl;
                  begins = subst (λ (n : ℕ). Groups 5 n d.bytes) (sym first) d.is;
                  ends = subst (λ (n : ℕ). Groups 5 n p.bytes) (sym second) p.is;
                },
              );
              on = next_on (add_gate c (record { var = v; left = left; right = g.0 })) line p.more
                  (subst (λ (x : Circuit). outcome_at x (item_at h line (dimacs.next_line item)) p.more ≡ Says r) (gate_is v (record { var = v; left = left; right = g.0 }) refl c) g.2);
            }

        by_left : GroupsRead (λ x w. Left v x w) (λ s n. in_left s v n) (left_place v) c h line item 4 0 text r → ItemRead GateBytes add_gate h r c v item text
        by_left d =
            let s = at h line item (Left v d.x d.w) in
            let on = rw (unit d.n, var_ok h v le few) at d.on in
            let t = left_said_back (location s) s v d.n (lit_less (2 * v) d.n) d.more on in
            let left = less_read (2 * v) d.n t.0 t.1 in
            by_right d t.0 left.0 t.2 left.1 (groups_back (λ x w. Right v t.0 x w) (λ s n. in_right s v t.0 n) (right_place v t.0) c h line item r 4 0 d.more (omega arith) (omega arith) t.3)
