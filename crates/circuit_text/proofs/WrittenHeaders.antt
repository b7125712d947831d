-- Headers: what the reader makes of one, and of which texts it is.
use Rattle.std.proofs.Common.{◌≡◌, ℕ, suc, ◌+◌, ◌^◌, ◌<◌, ◌≤◌, Bool, true, false, List, [], ◌∷◌, ◌++◌, length, Some, Ok, refl, sym, ap, subst, ◌∙◌, append_assoc, inl, inr, arith}
use Rattle.std.specs.Prelude.{None, ◌==◌, codes, not, nat_le, if◌then◌else◌}
use Rattle.std.specs.List.{list_all}
use Rattle.std.proofs.lemmas.Bool.{cases_Bool, eqb-true, leb-true}
use Rattle.std.proofs.lemmas.Bool.Decides.{nat_tests}
use Rattle.sat_formula.specs.Outcome as dimacs
use Rattle.circuit_text.specs.declared.fault.AigerKind.{AigerKind}
use Rattle.circuit_text.specs.declared.fault.Location.{Location}
use Rattle.circuit_text.specs.declared.header.Form.{Form}
use Rattle.circuit_text.specs.declared.header.Form.TheVariants as forms
use Rattle.circuit_text.specs.declared.header.Header.{Header}
use Rattle.circuit_text.specs.declared.header.Field.{Field}
use Rattle.circuit_text.specs.declared.header.Field.TheVariants as fields
use Rattle.circuit_text.specs.declared.spot.Place.TheVariants.{Head}
use Rattle.circuit_text.specs.declared.spot.After.{After}
use Rattle.circuit_text.specs.declared.spot.After.TheVariants.{Stops}
use Rattle.circuit_text.specs.automaton.Aigers.{Says, outcome_at}
use Rattle.circuit_text.specs.automaton.Items.{no_circuit}
use Rattle.circuit_text.specs.Circuits.{Circuit}
use Rattle.circuit_text.specs.automaton.Headers.{field_after, may_end, place_at, with_count}
use Rattle.circuit_text.specs.automaton.Places.{after, in_header, start}
use Rattle.circuit_text.specs.Written.{Counts, Is, Number, Then}
use Rattle.circuit_text.specs.Written as written
use Rattle.circuit_text.proofs.WrittenNumbers.{IsDigitPlace, and_left, and_right, at, digits_read, number_saturated, onward}

abbrev pub header : Form → ℕ → ℕ → ℕ → ℕ → ℕ → ℕ → ℕ → Header
header form m i l o a b c = record { form = form; maximum = m; inputs = i; latches = l; outputs = o; gates = a; bad = b; constraints = c }

-- ---- tests

pub not_le : (a b : ℕ) → b < a → nat_le a b ≡ false
not_le a b lt = elim (cases_Bool (nat_le a b)) [ inl low ↦ bad a b lt (leb-true a b low) | inr high ↦ high ]
  where
    bad : (a b : ℕ) → b < a → a ≤ b → nat_le a b ≡ false
    bad a b lt le = absurd (omega arith)

pub not_le_read : (a b : ℕ) → nat_le a b ≡ false → b < a
not_le_read a b e = elim (cases_Bool (nat_le (suc b) a)) [ inl low ↦ leb-true (suc b) a low | inr high ↦ bad a b e high ]
  where
    bad : (a b : ℕ) → nat_le a b ≡ false → nat_le (suc b) a ≡ false → b < a
    bad a b e f = grind (arith, nat_tests)

module _ (c r : Circuit) (l : Location) (more : List ℕ) where
  -- where the text says a circuit, no test has stopped it
  pub if_on : (q : Bool) (x : After) (kind : AigerKind) → onward c l (if q then x else Stops kind) more ≡ Says r → (q ≡ true) × (onward c l x more ≡ Says r)
  if_on true x kind e = (refl, e)
  if_on false x kind e = absurd cc

  pub if_not : (q : Bool) (x : After) (kind : AigerKind) → onward c l (if not q then Stops kind else x) more ≡ Says r → (q ≡ true) × (onward c l x more ≡ Says r)
  if_not true x kind e = (refl, e)
  if_not false x kind e = absurd cc

  pub if_off : (q : Bool) (x : After) (kind : AigerKind) → onward c l (if q then Stops kind else x) more ≡ Says r → (q ≡ false) × (onward c l x more ≡ Says r)
  if_off true x kind e = absurd cc
  if_off false x kind e = (refl, e)

-- ---- a number of the header

pub head_place : (field : Field) → IsDigitPlace (λ v. Head field v) (λ s d b. in_header s field d b)
unfolding after
head_place field = record { byte = λ h line item v b. refl; more = λ h line item v n b. refl; missing = λ s b. refl; within = λ v. refl }

module _ (c : Circuit) (line item : ℕ) where
  field_next : (h more_h : Header) (field next : Field) (n : ℕ) (ds more : List ℕ) → Number n ds → n < 2 ^ 28 → with_count h field n ≡ Ok more_h → field_after field ≡ Some next →
      outcome_at c (at h line item (Head field None)) (ds ++ 32 ∷ more) ≡ outcome_at c (at more_h line item (Head next None)) more
  field_next h more_h field next n ds more is lt e e2 =
      digits_read (λ v. Head field v) (λ s d b. in_header s field d b) (head_place field) c h line item None n ds 32 more is.digits refl (number_saturated n ds is (omega arith))
      ∙ rw (not_le (2 ^ 28) n lt, e, e2) refl

  field_last : (h more_h : Header) (field : Field) (n : ℕ) (ds more : List ℕ) → Number n ds → n < 2 ^ 28 → with_count h field n ≡ Ok more_h → may_end field ≡ true →
      outcome_at c (at h line item (Head field None)) (ds ++ 10 ∷ more) ≡ outcome_at c (at more_h (dimacs.next_line line) item (place_at more_h 0)) more
  field_last h more_h field n ds more is lt e e2 =
      digits_read (λ v. Head field v) (λ s d b. in_header s field d b) (head_place field) c h line item None n ds 10 more is.digits refl (number_saturated n ds is (omega arith))
      ∙ rw (not_le (2 ^ 28) n lt, e, e2) refl

-- a field and what follows it
pub opened : (n : ℕ) (G : List ℕ → Type 0) (text more : List ℕ) (t : Then (written.Field n) G text) → text ++ more ≡ 32 ∷ (t.begins.after ++ (t.after ++ more))
opened n G text more t =
    ap (λ (l : List ℕ). l ++ more) (t.whole ∙ ap (λ (l : List ℕ). l ++ t.after) (t.begins.whole ∙ ap (λ (l : List ℕ). l ++ t.begins.after) t.begins.begins))
    ∙ ap (λ (l : List ℕ). 32 ∷ l) (append_assoc t.begins.after t.after more)

-- the last numbers lead from a header to the last one, and if all are 0 it is the last one
abbrev pub Fits : Field → List ℕ → Header → Header → Type 0
Fits field [] h last = (may_end field ≡ true) × (h ≡ last)
Fits field (n ∷ ns) h last = (may_end field ≡ true) × (list_all (λ m. m == 0) (n ∷ ns) ≡ true → h ≡ last)
    × (n < 2 ^ 28) × ((next : Field) × (more_h : Header) × (field_after field ≡ Some next) × (with_count h next n ≡ Ok more_h) × Fits next ns more_h last)

module _ (c r : Circuit) (last : Header) (after : List ℕ) (k : (line : ℕ) → outcome_at c (at last line 0 (place_at last 0)) after ≡ Says r) where
  ends_here : (h more_h : Header) (field : Field) (n : ℕ) (ds text : List ℕ) → Number n ds → n < 2 ^ 28 → with_count h field n ≡ Ok more_h → may_end field ≡ true → more_h ≡ last →
      Is (10 ∷ []) text → outcome_at c (at h 1 0 (Head field None)) (ds ++ (text ++ after)) ≡ Says r
  ends_here h more_h field n ds text is lt e ends same line =
      ap (λ (l : List ℕ). outcome_at c (at h 1 0 (Head field None)) (ds ++ (l ++ after))) line
      ∙ field_last c 1 0 h more_h field n ds after is lt e ends
      ∙ ap (λ (x : Header). outcome_at c (at x (dimacs.next_line 1) 0 (place_at x 0)) after) same
      ∙ k (dimacs.next_line 1)

  counts_read : (ns : List ℕ) (h more_h : Header) (field : Field) (n : ℕ) (ds text : List ℕ) → Number n ds → n < 2 ^ 28 → with_count h field n ≡ Ok more_h → Fits field ns more_h last →
      Counts ns text → outcome_at c (at h 1 0 (Head field None)) (ds ++ (text ++ after)) ≡ Says r
  counts_read [] h more_h field n ds text is lt e fits line = ends_here h more_h field n ds text is lt e fits.0 fits.1 line
  counts_read (m ∷ ns) h more_h field n ds text is lt e fits (inl zeros) = ends_here h more_h field n ds text is lt e fits.0 (fits.1 zeros.0) zeros.1
  counts_read (m ∷ ns) h more_h field n ds text is lt e fits (inr t) =
      ap (λ (l : List ℕ). outcome_at c (at h 1 0 (Head field None)) (ds ++ l)) (opened m (Counts ns) text after t)
      ∙ field_next c 1 0 h more_h field fits.3.0 n ds (t.begins.after ++ (t.after ++ after)) is lt e fits.3.2
      ∙ counts_read ns more_h fits.3.1 fits.3.0 m t.begins.after t.after t.begins.ends fits.2 fits.3.3 fits.3.4 t.ends

-- a number and the next one
field_then : (c : Circuit) (h more_h : Header) (field next : Field) (n m : ℕ) (ds text after : List ℕ) (G : List ℕ → Type 0) (t : Then (written.Field m) G text) → Number n ds → n < 2 ^ 28 →
    with_count h field n ≡ Ok more_h → field_after field ≡ Some next →
    outcome_at c (at h 1 0 (Head field None)) (ds ++ (text ++ after)) ≡ outcome_at c (at more_h 1 0 (Head next None)) (t.begins.after ++ (t.after ++ after))
field_then c h more_h field next n m ds text after G t is lt e e2 =
    ap (λ (l : List ℕ). outcome_at c (at h 1 0 (Head field None)) (ds ++ l)) (opened m G text after t)
    ∙ field_next c 1 0 h more_h field next n ds (t.begins.after ++ (t.after ++ after)) is lt e e2

zero_is : (n : ℕ) (ns : List ℕ) → list_all (λ m. m == 0) (n ∷ ns) ≡ true → n ≡ 0
zero_is n ns e = eqb-true n 0 (and_left (n == 0) (list_all (λ m. m == 0) ns) e)

zeros_on : (n : ℕ) (ns : List ℕ) → list_all (λ m. m == 0) (n ∷ ns) ≡ true → list_all (λ m. m == 0) ns ≡ true
zeros_on n ns e = and_right (n == 0) (list_all (λ m. m == 0) ns) e

fits_all : (form : Form) (m i l o a b c : ℕ) → b < 2 ^ 28 → c < 2 ^ 28 → Fits fields.Gates (b ∷ c ∷ 0 ∷ 0 ∷ []) (header form m i l o a 0 0) (header form m i l o a b c)
fits_all form m i l o a b c lb lc =
    let none : 0 < 2 ^ 28 = omega arith in
    let last = header form m i l o a b c in (
      refl,
      (λ z. both z),
      lb,
      (
        fields.Bad,
        header form m i l o a b 0,
        refl,
        refl,
        (
          refl,
          (λ z. ap (λ (x : ℕ). header form m i l o a b x) (sym (zero_is c (0 ∷ 0 ∷ []) z))),
          lc,
          (
            fields.Constraints,
            last,
            refl,
            refl,
            (refl, (λ z. refl), none, (fields.Justice, last, refl, refl, (refl, (λ z. refl), none, (fields.Fairness, last, refl, refl, (refl, refl))))),
          ),
        ),
      ),
    )
  where
    both : list_all (λ m. m == 0) (b ∷ c ∷ 0 ∷ 0 ∷ []) ≡ true → header form m i l o a 0 0 ≡ header form m i l o a b c
    both z =
        ap (λ (x : ℕ). header form m i l o a x 0) (sym (zero_is b (c ∷ 0 ∷ 0 ∷ []) z))
        ∙ ap (λ (x : ℕ). header form m i l o a b x) (sym (zero_is c (0 ∷ 0 ∷ []) (zeros_on b (c ∷ 0 ∷ 0 ∷ []) z)))

-- the words
pub binary_begins : (more : List ℕ) → outcome_at no_circuit start (codes "aig" ++ 32 ∷ more) ≡ outcome_at no_circuit (at (header forms.Binary 0 0 0 0 0 0 0) 1 0 (Head fields.Maximum None)) more
unfolding outcome_at after
binary_begins more = refl

pub text_begins : (more : List ℕ) → outcome_at no_circuit start (codes "aag" ++ 32 ∷ more) ≡ outcome_at no_circuit (at (header forms.Text 0 0 0 0 0 0 0) 1 0 (Head fields.Maximum None)) more
unfolding outcome_at after
text_begins more = refl

with_all : (form : Form) (m i l o a : ℕ) → m ≡ i + l + a → with_count (header form m i l o 0 0 0) fields.Gates a ≡ Ok (header form m i l o a 0 0)
with_all form m i l o a e = subst (λ (x : ℕ). with_count (header form x i l o 0 0 0) fields.Gates a ≡ Ok (header form x i l o a 0 0)) (sym e) (rw (same (i + l + a)) refl)
  where
    same : (n : ℕ) → (n == n) ≡ true
    same n = grind (arith, nat_tests)

abbrev pub header_of : Form → Circuit → Header
header_of form x = header form (written.maximum x) x.inputs (length x.latches) (length x.outputs) (length x.gates) (length x.bad) (length x.constraints)

-- a written header is read
pub header_read_on : (form : Form) (word : List ℕ) (x r : Circuit) (text after : List ℕ) →
    ((more : List ℕ) → outcome_at no_circuit start (word ++ 32 ∷ more) ≡ outcome_at no_circuit (at (header form 0 0 0 0 0 0 0) 1 0 (Head fields.Maximum None)) more) →
    written.IsSized x → written.Header word x text →
    ((line : ℕ) → outcome_at no_circuit (at (header_of form x) line 0 (place_at (header_of form x) 0)) after ≡ Says r) →
    outcome_at no_circuit start (text ++ after) ≡ Says r
header_read_on form word x r text after begins sized t k =
    let m = written.maximum x in let i = x.inputs in let l = length x.latches in let o = length x.outputs in let a = length x.gates in
    let t1 = t.ends in let t2 = t1.ends in let t3 = t2.ends in let t4 = t3.ends in let t5 = t4.ends in
    let few = sized.variables in
    let outs = sized.outputs in
    ap (λ (z : List ℕ). outcome_at no_circuit start (z ++ after)) (t.whole ∙ ap (λ (z : List ℕ). z ++ t.after) t.begins)
    ∙ ap (outcome_at no_circuit start) (append_assoc word t.after after ∙ ap (λ (z : List ℕ). word ++ z) (opened m _ t.after after t1))
    ∙ begins (t1.begins.after ++ (t1.after ++ after))
    ∙ field_then no_circuit (header form 0 0 0 0 0 0 0) (header form m 0 0 0 0 0 0) fields.Maximum fields.Inputs m i t1.begins.after t1.after after _ t2 t1.begins.ends few refl refl
    ∙ field_then no_circuit (header form m 0 0 0 0 0 0) (header form m i 0 0 0 0 0) fields.Inputs fields.Latches i l t2.begins.after t2.after after _ t3 t2.begins.ends (omega arith) refl refl
    ∙ field_then no_circuit (header form m i 0 0 0 0 0) (header form m i l 0 0 0 0) fields.Latches fields.Outputs l o t3.begins.after t3.after after _ t4 t3.begins.ends (omega arith) refl refl
    ∙ field_then no_circuit (header form m i l 0 0 0 0) (header form m i l o 0 0 0) fields.Outputs fields.Gates o a t4.begins.after t4.after after _ t5 t4.begins.ends outs refl refl
    ∙ counts_read no_circuit r (header_of form x) after k (length x.bad ∷ length x.constraints ∷ 0 ∷ 0 ∷ []) (header form m i l o 0 0 0) (header form m i l o a 0 0) fields.Gates a
    t5.begins.after t5.after t5.begins.ends (omega arith) (with_all form m i l o a refl) (fits_all form m i l o a (length x.bad) (length x.constraints) sized.bad sized.constraints) t5.ends
