-- Latches, outputs and gates, one after the other: as they are written they are read.
use Rattle.std.proofs.Common.{◌≡◌, ℕ, suc, ◌+◌, ◌-◌, ◌*◌, ◌^◌, ◌<◌, ◌≤◌, Bool, true, false, List, [], ◌∷◌, ◌++◌, length, Some, Ok, refl, sym, ap, subst, ◌∙◌, append_assoc, inl, inr, arith}
use Rattle.std.specs.Prelude.{Option, None, ◌==◌}
use Rattle.std.proofs.lemmas.Bool.{le-leb, lt-ltb, ne_eqb}
use Rattle.std.proofs.lemmas.Bool.Decides.{nat_tests}
use Rattle.sat_rules.specs.Clauses.{var_of}
use Rattle.sat_formula.specs.Bytes.{is_digit}
use Rattle.sat_formula.specs.Outcome as dimacs
use Rattle.circuit_rules.specs.Circuits as rules
use Rattle.circuit_text.specs.declared.circuit.Item.{Item}
use Rattle.circuit_text.specs.declared.circuit.Item.TheVariants.{OfLatch, OfGate}
use Rattle.circuit_text.specs.declared.header.Header.{Header}
use Rattle.circuit_text.specs.declared.number.Number.TheVariants as numbers
use Rattle.circuit_text.specs.declared.spot.Line as line_kinds
use Rattle.circuit_text.specs.declared.spot.Line.TheVariants as lines
use Rattle.circuit_text.specs.declared.spot.Spot.{Spot}
use Rattle.circuit_text.specs.declared.spot.Place.TheVariants.{Line, Reset, Left, Right}
use Rattle.circuit_text.specs.automaton.Aigers.{Says, outcome_at}
use Rattle.circuit_text.specs.automaton.Items.{with_item}
use Rattle.circuit_text.specs.Circuits.{Circuit}
use Rattle.circuit_text.specs.automaton.Headers.{lit_said, place_at, reset_said, var_said}
use Rattle.circuit_text.specs.automaton.Places.{after, in_left, in_line, in_reset, in_right, item_read, lit_read, location}
use Rattle.circuit_text.specs.Written.{Each, GateBytes, Is, LatchLine, LitLine, Number, Then, reset_code}
use Rattle.circuit_text.specs.Written as written
use Rattle.circuit_text.proofs.WrittenHeaders.{opened}
use Rattle.circuit_text.proofs.WrittenNumbers.{IsDigitPlace, IsGroupPlace, at, digits_read, groups_read, number_saturated, onward}

-- the start of an item
abbrev pub item_at : Header → ℕ → ℕ → Spot
item_at h line item = at h line item (place_at h item)

pub next_is : (item : ℕ) → item < 2 ^ 32 → dimacs.next_line item ≡ suc item
next_is item lt = omega arith

-- ---- lists of items

abbrev pub add_all : {A : Type 0} → (Circuit → A → Circuit) → Circuit → List A → Circuit
add_all add c [] = c
add_all add c (x ∷ xs) = add_all add (add c x) xs

module _ {A : Type 0} (form : ℕ → A → List ℕ → Type 0) (add : Circuit → A → Circuit) (h : Header) (r : Circuit) (first v0 count : ℕ)
    (one : (c : Circuit) (line k v item : ℕ) (x : A) (text more : List ℕ) → k < count → v ≡ v0 + k → item ≡ first + k → form v x text →
    ((line : ℕ) → outcome_at (add c x) (item_at h line (suc item)) more ≡ Says r) → outcome_at c (item_at h line item) (text ++ more) ≡ Says r) where
  pub section_read : (xs : List A) (c : Circuit) (line k v item : ℕ) (text more : List ℕ) → k + length xs ≡ count → v ≡ v0 + k → item ≡ first + k → Each form v xs text →
      ((line : ℕ) → outcome_at (add_all add c xs) (item_at h line (first + count)) more ≡ Says r) → outcome_at c (item_at h line item) (text ++ more) ≡ Says r
  section_read [] c line k v item text more e ev ei t kk =
      let same : item ≡ first + count = omega arith in
      ap (λ (l : List ℕ). outcome_at c (item_at h line item) (l ++ more)) t ∙ ap (λ (n : ℕ). outcome_at c (item_at h line n) more) same ∙ kk line
  section_read (x ∷ xs) c line k v item text more e ev ei t kk =
      ap (outcome_at c (item_at h line item)) (ap (λ (l : List ℕ). l ++ more) t.whole ∙ append_assoc t.before t.after more)
      ∙ one c line k v item x t.before (t.after ++ more) (omega arith) ev ei t.begins
      (λ line2. section_read xs (add c x) line2 (suc k) (suc v) (suc item) t.after more (omega arith) (omega arith) (omega arith) t.ends kk)

-- ---- literals

pub lit_ok : (h : Header) (l : ℕ) → var_of l ≤ h.maximum → h.maximum < 2 ^ 28 → lit_said h l ≡ Ok l
lit_ok h l le few = let small : l < 2 ^ 29 = omega arith in rw (lt-ltb l (2 ^ 29) small, le-leb (var_of l) h.maximum le) refl

pub var_ok : (h : Header) (v : ℕ) → v ≤ h.maximum → h.maximum < 2 ^ 28 → var_said h v ≡ Ok (2 * v)
var_ok h v le few = let small : 2 * v < 2 ^ 29 = omega arith in rw (le-leb v h.maximum le, lt-ltb (2 * v) (2 ^ 29) small) refl

small_lit : (h : Header) (l : ℕ) → var_of l ≤ h.maximum → h.maximum < 2 ^ 28 → l < 2 ^ 31
small_lit h l le few = omega arith

-- ---- outputs, bad outputs and constraints

pub line_place : (kind : line_kinds.Line) → IsDigitPlace (λ v. Line kind v) (λ s d b. in_line s kind d b)
unfolding after
line_place kind = record { byte = λ h line item v b. refl; more = λ h line item v n b. refl; missing = λ s b. refl; within = λ v. refl }

module _ (c r : Circuit) (h : Header) (few : h.maximum < 2 ^ 28) (line item : ℕ) (low : item < 2 ^ 32) where
  pub lit_item_read : (kind : line_kinds.Line) (item_of : ℕ → Item) (v l : ℕ) (text more : List ℕ) →
      ((s : Spot) → lit_read s kind l 10 ≡ item_read s (item_of l)) → place_at h item ≡ Line kind None → LitLine h.maximum v l text →
      ((line : ℕ) → outcome_at (with_item c (item_of l)) (item_at h line (suc item)) more ≡ Says r) → outcome_at c (item_at h line item) (text ++ more) ≡ Says r
  lit_item_read kind item_of v l text more reads here t k =
      ap (λ p. outcome_at c (at h line item p) (text ++ more)) here
      ∙ ap (outcome_at c (at h line item (Line kind None)))
      (ap (λ (z : List ℕ). z ++ more) (t.whole ∙ ap (λ (z : List ℕ). t.before ++ z) t.ends) ∙ append_assoc t.before (10 ∷ []) more)
      ∙ digits_read (λ v. Line kind v) (λ s d b. in_line s kind d b) (line_place kind) c h line item None l t.before 10 more t.begins.1.digits refl
      (number_saturated l t.before t.begins.1 (small_lit h l t.begins.0 few))
      ∙ rw (lit_ok h l t.begins.0 few, reads (at h line item (Line kind (Some l))), next_is item low) (k (dimacs.next_line line))

-- ---- latches

pub reset_place : (v next : ℕ) → IsDigitPlace (λ w. Reset v next w) (λ s d b. in_reset s v next d b)
unfolding after
reset_place v next = record { byte = λ h line item w b. refl; more = λ h line item w n b. refl; missing = λ s b. refl; within = λ w. refl }

pub reset_ok : (v : ℕ) (o : Option Bool) → 0 < v → reset_said (2 * v) (reset_code o (2 * v)) ≡ Ok o
reset_ok v (Some false) lt = refl
reset_ok v (Some true) lt = refl
reset_ok v None lt = rw (ne_eqb (2 * v) 0 (λ e. omega arith), ne_eqb (2 * v) 1 (λ e. omega arith), same (2 * v)) refl
  where
    same : (n : ℕ) → (n == n) ≡ true
    same n = grind (arith, nat_tests)

reset_small : (v : ℕ) (o : Option Bool) → v < 2 ^ 28 → reset_code o (2 * v) < 2 ^ 31
reset_small v (Some false) lt = omega arith
reset_small v (Some true) lt = omega arith
reset_small v None lt = omega arith

half : (v : ℕ) → var_of (2 * v) ≡ v
half v = omega arith

abbrev latch_item : ℕ → rules.Latch → Item
latch_item v x = OfLatch (record { output = 2 * v; next = x.next; reset = x.reset })

pub latch_is : (v : ℕ) (x : rules.Latch) → x.var ≡ v → (c : Circuit) → with_item c (latch_item v x) ≡ record c { latches = c.latches ++ x ∷ [] }
latch_is v x e c =
    let whole : rules.Latch → Circuit = λ y. record c { latches = c.latches ++ y ∷ [] } in
    ap (λ (n : ℕ). whole (record { var = n; next = x.next; reset = x.reset })) (half v ∙ sym e)

abbrev pub add_latch : Circuit → rules.Latch → Circuit
add_latch c x = record c { latches = c.latches ++ x ∷ [] }

module _ (c r : Circuit) (h : Header) (few : h.maximum < 2 ^ 28) (line item : ℕ) (low : item < 2 ^ 32) where
  pub latch_line_on : (v : ℕ) (x : rules.Latch) (text more : List ℕ) → 0 < v → v ≤ h.maximum → LatchLine h.maximum v x text →
      ((line : ℕ) → outcome_at (add_latch c x) (item_at h line (suc item)) more ≡ Says r) → outcome_at c (at h line item (Line (lines.Latch v) None)) (text ++ more) ≡ Says r
  latch_line_on v x text more positive le t k =
      ap (outcome_at c (at h line item (Line (lines.Latch v) None))) (ap (λ (z : List ℕ). z ++ more) t.1.whole ∙ append_assoc t.1.before t.1.after more)
      ∙ by_reset t.1.ends
    where
      is_next : outcome_at (with_item c (latch_item v x)) (item_at h (dimacs.next_line line) (dimacs.next_line item)) more ≡ Says r
      is_next = rw (next_is item low, latch_is v x t.0 c) (k (dimacs.next_line line))

      number_on : (b : ℕ) (z : List ℕ) → is_digit b ≡ false →
          outcome_at c (at h line item (Line (lines.Latch v) None)) (t.1.before ++ b ∷ z) ≡ onward c (location (at h line item (Line (lines.Latch v) (Some x.next)))) (lit_read (at h line item (Line (lines.Latch v) (Some x.next))) (lines.Latch v) x.next b) z
      number_on b z other =
          digits_read (λ w. Line (lines.Latch v) w) (λ s d b. in_line s (lines.Latch v) d b) (line_place (lines.Latch v)) c h line item None x.next t.1.before b z t.1.begins.1.digits other
          (number_saturated x.next t.1.before t.1.begins.1 (small_lit h x.next t.1.begins.0 few))
          ∙ rw (lit_ok h x.next t.1.begins.0 few) refl

      by_reset : written.Reset x t.1.after → outcome_at c (at h line item (Line (lines.Latch v) None)) (t.1.before ++ (t.1.after ++ more)) ≡ Says r
      by_reset (inl z) =
          ap (λ (l : List ℕ). outcome_at c (at h line item (Line (lines.Latch v) None)) (t.1.before ++ (l ++ more))) z.1
          ∙ number_on 10 more refl ∙ rw (var_ok h v le few) zero_on
        where
          zero_on : outcome_at (with_item c (OfLatch (record { output = 2 * v; next = x.next; reset = Some false }))) (item_at h (dimacs.next_line line) (dimacs.next_line item)) more ≡ Says r
          zero_on = subst (λ (o : Option Bool). outcome_at (with_item c (OfLatch (record { output = 2 * v; next = x.next; reset = o }))) (item_at h (dimacs.next_line line) (dimacs.next_line item)) more ≡ Says r) z.0 is_next
      by_reset (inr z) =
          ap (λ (l : List ℕ). outcome_at c (at h line item (Line (lines.Latch v) None)) (t.1.before ++ l)) (opened (reset_code x.reset (2 * x.var)) (Is (10 ∷ [])) t.1.after more z)
          ∙ number_on 32 (z.begins.after ++ (z.after ++ more)) refl
          ∙ ap (λ (l : List ℕ). outcome_at c (at h line item (Reset v x.next None)) (z.begins.after ++ (l ++ more))) z.ends
          ∙ digits_read (λ w. Reset v x.next w) (λ s d b. in_reset s v x.next d b) (reset_place v x.next) c h line item None (reset_code x.reset (2 * v)) z.begins.after 10 more
          z.begins.ends.digits refl (number_saturated (reset_code x.reset (2 * v)) z.begins.after number (reset_small v x.reset (omega arith)))
          ∙ rw (lit_ok h x.next t.1.begins.0 few, var_ok h v le few, reset_ok v x.reset positive) is_next
        where
          number : Number (reset_code x.reset (2 * v)) z.begins.after
          number = subst (λ (n : ℕ). Number (reset_code x.reset (2 * n)) z.begins.after) t.0 z.begins.ends

  pub latch_read_on : (v : ℕ) (x : rules.Latch) (text more : List ℕ) → 0 < v → v ≤ h.maximum → place_at h item ≡ Line (lines.Latch v) None → LatchLine h.maximum v x text →
      ((line : ℕ) → outcome_at (add_latch c x) (item_at h line (suc item)) more ≡ Says r) → outcome_at c (item_at h line item) (text ++ more) ≡ Says r
  latch_read_on v x text more positive le here t k = ap (λ p. outcome_at c (at h line item p) (text ++ more)) here ∙ latch_line_on v x text more positive le t k

-- ---- gates

pub left_place : (v : ℕ) → IsGroupPlace (λ x w. Left v x w) (λ s n. in_left s v n)
unfolding after
left_place v = record { byte = λ h line item x w b. refl; more = λ h line item x w m y. refl; long = λ s. refl; within = λ x w. refl }

pub right_place : (v left : ℕ) → IsGroupPlace (λ x w. Right v left x w) (λ s n. in_right s v left n)
unfolding after
right_place v left = record { byte = λ h line item x w b. refl; more = λ h line item x w m y. refl; long = λ s. refl; within = λ x w. refl }

abbrev pub add_gate : Circuit → rules.Gate → Circuit
add_gate c g = record c { gates = c.gates ++ g ∷ [] }

pub gate_is : (v : ℕ) (g : rules.Gate) → g.var ≡ v → (c : Circuit) → with_item c (OfGate (record { output = 2 * v; left = g.left; right = g.right })) ≡ add_gate c g
gate_is v g e c =
    let whole : rules.Gate → Circuit = λ y. record c { gates = c.gates ++ y ∷ [] } in
    ap (λ (n : ℕ). whole (record { var = n; left = g.left; right = g.right })) (half v ∙ sym e)

less_back : (a b : ℕ) → b ≤ a → a - (a - b) ≡ b
less_back a b le = omega arith

module _ (c r : Circuit) (h : Header) (few : h.maximum < 2 ^ 28) (line item : ℕ) (low : item < 2 ^ 32) where
  pub gate_read_on : (v : ℕ) (g : rules.Gate) (text more : List ℕ) → v ≤ h.maximum → place_at h item ≡ Left v 0 1 → GateBytes v g text →
      ((line : ℕ) → outcome_at (add_gate c g) (item_at h line (suc item)) more ≡ Says r) → outcome_at c (item_at h line item) (text ++ more) ≡ Says r
  gate_read_on v g text more le here t k =
      ap (λ p. outcome_at c (at h line item p) (text ++ more)) here
      ∙ ap (outcome_at c (at h line item (Left v 0 1))) (ap (λ (z : List ℕ). z ++ more) t.3.whole ∙ append_assoc t.3.before t.3.after more)
      ∙ groups_read (λ x w. Left v x w) (λ s n. in_left s v n) (left_place v) c h line item r 4 0 (2 * v - g.left) t.3.before (t.3.after ++ more) (omega arith) (omega arith) t.3.begins
      (λ x w. left_on x w)
    where
      is_left : g.left < 2 * v
      is_left = t.1

      is_right : g.right ≤ g.left
      is_right = t.2

      left_lit : var_of g.left ≤ h.maximum
      left_lit = omega arith

      unit : (n : ℕ) → 0 + n * 1 ≡ n
      unit n = omega arith

      right_on : (x w : ℕ) → onward c (location (at h line item (Right v g.left x w))) (in_right (at h line item (Right v g.left x w)) v g.left (numbers.Whole (0 + (g.left - g.right) * 1))) more ≡ Says r
      right_on x w = rw (
        unit (g.left - g.right),
        lit_ok h g.left left_lit few,
        var_ok h v le few,
        le-leb (g.left - g.right) g.left (omega arith),
        less_back g.left g.right is_right,
        next_is item low,
        gate_is v g t.0 c,
      ) (k line)

      left_on : (x w : ℕ) → onward c (location (at h line item (Left v x w))) (in_left (at h line item (Left v x w)) v (numbers.Whole (0 + (2 * v - g.left) * 1))) (t.3.after ++ more) ≡ Says r
      left_on x w = rw (unit (2 * v - g.left), var_ok h v le few, le-leb (2 * v - g.left) (2 * v) (omega arith), less_back (2 * v) g.left (omega arith), lt-ltb 0 (2 * v - g.left) (omega arith))
          (groups_read (λ x w. Right v g.left x w) (λ s n. in_right s v g.left n) (right_place v g.left) c h line item r 4 0 (g.left - g.right) t.3.after more (omega arith) (omega arith) t.3.ends
          (λ x w. right_on x w))
