-- Headers that are read: of which texts they are.
use Rattle.std.proofs.Common.{◌≡◌, ℕ, ◌+◌, ◌^◌, ◌<◌, Bool, true, false, List, [], ◌∷◌, ◌++◌, Some, Ok, Err, refl, sym, ap, subst, ◌∙◌, append_assoc, inl, inr, arith}
use Rattle.std.specs.Prelude.{Option, None, Result, ◌⊎◌, ◌&&◌, ◌==◌, nat_le, nat_lt, if◌then◌else◌}
use Rattle.std.proofs.lemmas.Bool.{cases_Bool, eqb-true, ltb-false}
use Rattle.sat_formula.specs.Bytes.{is_lf}
use Rattle.sat_formula.specs.Outcome as dimacs
use Rattle.circuit_text.specs.declared.fault.AigerKind.{AigerKind}
use Rattle.circuit_text.specs.declared.fault.AigerKind.TheVariants as kinds
use Rattle.circuit_text.specs.declared.fault.Location.{Location}
use Rattle.circuit_text.specs.declared.header.Form.{Form}
use Rattle.circuit_text.specs.declared.header.Header.{Header}
use Rattle.circuit_text.specs.declared.header.Field.{Field}
use Rattle.circuit_text.specs.declared.header.Field.TheVariants as fields
use Rattle.circuit_text.specs.declared.spot.Spot.{Spot}
use Rattle.circuit_text.specs.declared.spot.Place.TheVariants.{Head}
use Rattle.circuit_text.specs.declared.spot.After.TheVariants.{Next}
use Rattle.circuit_text.specs.automaton.Aigers.{Says, outcome_at}
use Rattle.circuit_text.specs.automaton.Items.{no_circuit}
use Rattle.circuit_text.specs.Circuits.{Circuit}
use Rattle.circuit_text.specs.automaton.Headers.{field_after, header_with, may_end, place_at, with_count}
use Rattle.circuit_text.specs.automaton.Places.{header_read, in_header, location, next_field, with_header}
use Rattle.circuit_text.specs.Written.{Counts, Is, Number, Then}
use Rattle.circuit_text.specs.Written as written
use Rattle.circuit_text.proofs.WrittenHeaders.{head_place, header, if_on, not_le_read}
use Rattle.circuit_text.proofs.WrittenWordsBack.{WordRead}
use Rattle.circuit_text.proofs.WrittenNumbers.{DigitsRead, and_left, and_right, at, digits_back, onward, saturated_number}

-- ---- a number

abbrev ok_of : Header → Result Header AigerKind
ok_of h = Ok h

if_err : (q : Bool) (kind : AigerKind) (x : Result Header AigerKind) (h : Header) → (if q then Err kind else x) ≡ Ok h → (q ≡ false) × (x ≡ Ok h)
if_err true kind x h e = absurd cc
if_err false kind x h e = (refl, e)

module _ (c r : Circuit) (line item : ℕ) where
  with_header_back : (l : Location) (s : Spot) (field : Field) (q : Result Header AigerKind) (b : ℕ) (more : List ℕ) → onward c l (with_header s field q b) more ≡ Says r →
      (h : Header) × (q ≡ Ok h) × (onward c l (header_read (record s { header = h }) field b) more ≡ Says r)
  with_header_back l s field (Ok h) b more e = (h, refl, e)
  with_header_back l s field (Err kind) b more e = absurd cc

  -- digits of a number of the header, which gives this header, and the byte after them
  pub record FieldRead (h : Header) (field : Field) (text : List ℕ) : Type 0 where
    pub n : ℕ
    pub begun : List ℕ
    pub byte : ℕ
    pub more : List ℕ
    pub next : Header
    pub whole : text ≡ begun ++ byte ∷ more
    pub is : Number n begun
    pub small : n < 2 ^ 28
    pub with : with_count h field n ≡ Ok next
    pub l : Location
    pub on : onward c l (header_read (at next line item (Head field (Some n))) field byte) more ≡ Says r

  pub field_back : (h : Header) (field : Field) (text : List ℕ) → outcome_at c (at h line item (Head field None)) text ≡ Says r → FieldRead h field text
  field_back h field text e = by_digits (digits_back (λ v. Head field v) (λ s d b. in_header s field d b) (head_place field) c h line item r None text e)
    where
      by_digits : DigitsRead (λ v. Head field v) (λ s d b. in_header s field d b) (head_place field) c h line item None text r → FieldRead h field text
      by_digits d =
          let w = with_header_back (location (at h line item (Head field (Some d.n)))) (at h line item (Head field (Some d.n))) field (header_with h field d.n) d.byte d.more d.on in
          let small = if_err (nat_le (2 ^ 28) d.n) kinds.NumberTooLarge (with_count h field d.n) w.0 w.1 in
          let lt = not_le_read (2 ^ 28) d.n small.0 in
          record {
            n = d.n;
            begun = d.begun;
            byte = d.byte;
            more = d.more;
            next = w.0;
            whole = d.whole;
            is = saturated_number d.n d.begun d.all d.value (omega (arith, lt));
            small = lt;
            with = small.1;
            l = location (at h line item (Head field (Some d.n)));
            on = w.2;
          }

  -- the header ends, or another number follows
  abbrev Follows : Header → Field → ℕ → List ℕ → Type 0
  Follows h field b more =
      ((b ≡ 10) × (may_end field ≡ true) × (outcome_at c (at h (dimacs.next_line line) item (place_at h 0)) more ≡ Says r))
      ⊎ ((next : Field) × (field_after field ≡ Some next) × (b ≡ 32) × (outcome_at c (at h line item (Head next None)) more ≡ Says r))

  next_field_back : (l : Location) (h : Header) (field : Field) (v : Option ℕ) (o : Option Field) (b : ℕ) (more : List ℕ) →
      onward c l (next_field (at h line item (Head field v)) o b) more ≡ Says r →
      (next : Field) × (o ≡ Some next) × (b ≡ 32) × (outcome_at c (at h line item (Head next None)) more ≡ Says r)
  next_field_back l h field v None b more e = absurd cc
  next_field_back l h field v (Some next) b more e =
      let space = if_on c r l more (b == 32) (Next (at h line item (Head next None))) kinds.Malformed e in
      (next, refl, eqb-true b 32 space.0, space.1)

  follows : (l : Location) (h : Header) (field : Field) (v : Option ℕ) (b : ℕ) (more : List ℕ) →
      onward c l (header_read (at h line item (Head field v)) field b) more ≡ Says r → Follows h field b more
  follows l h field v b more e = elim (cases_Bool (is_lf b && may_end field)) [
    | inl ends ↦ inl (eqb-true b 10 (and_left (is_lf b) (may_end field) ends), and_right (is_lf b) (may_end field) ends, rw ends at e)
    | inr on ↦ inr (next_field_back l h field v (field_after field) b more (rw on at e))
  ]

  -- a number before another one
  pub record NumberThen (h : Header) (field next : Field) (text : List ℕ) : Type 0 where
    pub n : ℕ
    pub begun : List ℕ
    pub more : List ℕ
    pub header : Header
    pub whole : text ≡ begun ++ 32 ∷ more
    pub is : Number n begun
    pub small : n < 2 ^ 28
    pub with : with_count h field n ≡ Ok header
    pub on : outcome_at c (at header line item (Head next None)) more ≡ Says r

  pub number_then : (h : Header) (field next : Field) (text : List ℕ) → may_end field ≡ false → field_after field ≡ Some next →
      outcome_at c (at h line item (Head field None)) text ≡ Says r → NumberThen h field next text
  number_then h field next text within is_next e =
      let d = field_back h field text e in by_follow d (follows d.l d.next field (Some d.n) d.byte d.more d.on)
    where
      by_follow : (d : FieldRead h field text) → Follows d.next field d.byte d.more → NumberThen h field next text
      by_follow d (inl x) = let unfinished = within in let shut = x.1 in absurd cc
      by_follow d (inr x) =
          let same : x.0 ≡ next = some_is (sym x.1 ∙ is_next) in
          record {
            n = d.n;
            begun = d.begun;
            more = d.more;
            header = d.next;
            whole = d.whole ∙ ap (λ (b : ℕ). d.begun ++ b ∷ d.more) x.2;
            is = d.is;
            small = d.small;
            with = d.with;
            on = subst (λ f. outcome_at c (at d.next line item (Head f None)) d.more ≡ Says r) same x.3;
          }
        where
          some_is : {f g : Field} → Some f ≡ Some g → f ≡ g
          some_is p = cc

  -- the last numbers, after one of this field that gave this header
  pub record CountsRead (ns : List ℕ) (last : Header) (text : List ℕ) : Type 0 where
    pub last_line : ℕ
    pub begun : List ℕ
    pub more : List ℕ
    pub whole : text ≡ begun ++ more
    pub is : Counts ns begun
    pub on : outcome_at c (at last last_line item (place_at last 0)) more ≡ Says r

  -- an LF, where all others are 0
  none_follow : (ns : List ℕ) (h : Header) (b : ℕ) (more : List ℕ) → Counts ns (10 ∷ []) → b ≡ 10 → outcome_at c (at h (dimacs.next_line line) item (place_at h 0)) more ≡ Says r →
      CountsRead ns h (b ∷ more)
  none_follow ns h b more is e on = record { last_line = dimacs.next_line line; begun = 10 ∷ []; more = more; whole = ap (λ (x : ℕ). x ∷ more) e; is = is; on = on }

  -- one number more
  one_follows : (n : ℕ) (ns : List ℕ) (last : Header) (b : ℕ) (ds text rest : List ℕ) → b ≡ 32 → Number n ds → text ≡ ds ++ rest → CountsRead ns last rest → CountsRead (n ∷ ns) last (b ∷ text)
  one_follows n ns last b ds text rest e is whole d = record {
    last_line = d.last_line;
    begun = 32 ∷ ds ++ d.begun;
    more = d.more;
    whole = ap (λ (x : ℕ). x ∷ text) e ∙ ap (λ (l : List ℕ). 32 ∷ l) (whole ∙ ap (λ (l : List ℕ). ds ++ l) d.whole ∙ sym (append_assoc ds d.begun d.more));
    is = inr (record { before = 32 ∷ ds; after = d.begun; whole = refl; begins = record { before = 32 ∷ []; after = ds; whole = refl; begins = refl; ends = is }; ends = d.is });
    on = d.on;
  }

  -- the number of the next field, and what follows it
  next_number : (h : Header) (next f : Field) (more : List ℕ) → Some next ≡ Some f → outcome_at c (at h line item (Head f None)) more ≡ Says r →
      (d : FieldRead h next more) × Follows d.next next d.byte d.more
  next_number h next f more e on =
      let same : f ≡ next = sym (some_field e) in
      let d = field_back h next more (subst (λ x. outcome_at c (at h line item (Head x None)) more ≡ Says r) same on) in
      (d, follows d.l d.next next (Some d.n) d.byte d.more d.on)
    where
      some_field : Some next ≡ Some f → next ≡ f
      some_field p = cc

  fairness_back : (h : Header) (b : ℕ) (more : List ℕ) → Follows h fields.Fairness b more → CountsRead [] h (b ∷ more)
  fairness_back h b more (inl x) = none_follow [] h b more refl x.0 x.2
  fairness_back h b more (inr x) = let bad = x.1 in absurd cc

  -- a number that has to be 0
  zero_is : (h next : Header) (kind : AigerKind) (n : ℕ) → (if nat_lt 0 n then Err kind else Ok h) ≡ Ok next → (n ≡ 0) × (next ≡ h)
  zero_is h next kind n e =
      let off = if_err (nat_lt 0 n) kind (Ok h) next e in
      let none = ltb-false 0 n off.0 in
      (omega arith, ok_is next h (sym off.1))
    where
      ok_is : (x y : Header) → ok_of x ≡ Ok y → x ≡ y
      ok_is x y p = cc

  justice_back : (h : Header) (b : ℕ) (more : List ℕ) → Follows h fields.Justice b more → CountsRead (0 ∷ []) h (b ∷ more)
  justice_back h b more (inl x) = none_follow (0 ∷ []) h b more (inl (refl, refl)) x.0 x.2
  justice_back h b more (inr x) =
      let d = next_number h fields.Fairness x.0 more x.1 x.3 in
      let zero_n = zero_is h d.0.next kinds.Fairness d.0.n d.0.with in
      one_follows 0 [] h b d.0.begun more (d.0.byte ∷ d.0.more) x.2 (subst (λ n. Number n d.0.begun) zero_n.0 d.0.is) d.0.whole
      (subst (λ y. CountsRead [] y (d.0.byte ∷ d.0.more)) zero_n.1 (fairness_back d.0.next d.0.byte d.0.more d.1))

  constraints_back : (h : Header) (b : ℕ) (more : List ℕ) → Follows h fields.Constraints b more → CountsRead (0 ∷ 0 ∷ []) h (b ∷ more)
  constraints_back h b more (inl x) = none_follow (0 ∷ 0 ∷ []) h b more (inl (refl, refl)) x.0 x.2
  constraints_back h b more (inr x) =
      let d = next_number h fields.Justice x.0 more x.1 x.3 in
      let zero_n = zero_is h d.0.next kinds.Justice d.0.n d.0.with in
      one_follows 0 (0 ∷ []) h b d.0.begun more (d.0.byte ∷ d.0.more) x.2 (subst (λ n. Number n d.0.begun) zero_n.0 d.0.is) d.0.whole
      (subst (λ y. CountsRead (0 ∷ []) y (d.0.byte ∷ d.0.more)) zero_n.1 (justice_back d.0.next d.0.byte d.0.more d.1))

  ok_header : (x y : Header) → ok_of x ≡ Ok y → y ≡ x
  ok_header x y p = cc

  bad_back : (form : Form) (m i l o a nb : ℕ) (b : ℕ) (more : List ℕ) → Follows (header form m i l o a nb 0) fields.Bad b more →
      (nc : ℕ) × (nc < 2 ^ 28) × CountsRead (nc ∷ 0 ∷ 0 ∷ []) (header form m i l o a nb nc) (b ∷ more)
  bad_back form m i l o a nb b more (inl x) = (0, omega arith, none_follow (0 ∷ 0 ∷ 0 ∷ []) (header form m i l o a nb 0) b more (inl (refl, refl)) x.0 x.2)
  bad_back form m i l o a nb b more (inr x) =
      let d = next_number (header form m i l o a nb 0) fields.Constraints x.0 more x.1 x.3 in
      let same = ok_header (header form m i l o a nb d.0.n) d.0.next d.0.with in (
        d.0.n,
        d.0.small,
        one_follows d.0.n (0 ∷ 0 ∷ []) (header form m i l o a nb d.0.n) b d.0.begun more (d.0.byte ∷ d.0.more) x.2 d.0.is d.0.whole
            (subst (λ y. CountsRead (0 ∷ 0 ∷ []) y (d.0.byte ∷ d.0.more)) same (constraints_back d.0.next d.0.byte d.0.more d.1)),
      )

  gates_back : (form : Form) (m i l o a : ℕ) (b : ℕ) (more : List ℕ) → Follows (header form m i l o a 0 0) fields.Gates b more →
      (nb : ℕ) × (nc : ℕ) × (nb < 2 ^ 28) × (nc < 2 ^ 28) × CountsRead (nb ∷ nc ∷ 0 ∷ 0 ∷ []) (header form m i l o a nb nc) (b ∷ more)
  gates_back form m i l o a b more (inl x) = (0, 0, omega arith, omega arith, none_follow (0 ∷ 0 ∷ 0 ∷ 0 ∷ []) (header form m i l o a 0 0) b more (inl (refl, refl)) x.0 x.2)
  gates_back form m i l o a b more (inr x) =
      let d = next_number (header form m i l o a 0 0) fields.Bad x.0 more x.1 x.3 in
      let same = ok_header (header form m i l o a d.0.n 0) d.0.next d.0.with in
      let rest = bad_back form m i l o a d.0.n d.0.byte d.0.more (subst (λ y. Follows y fields.Bad d.0.byte d.0.more) same d.1) in
      (d.0.n, rest.0, d.0.small, rest.1, one_follows d.0.n (rest.0 ∷ 0 ∷ 0 ∷ []) (header form m i l o a d.0.n rest.0) b d.0.begun more (d.0.byte ∷ d.0.more) x.2 d.0.is d.0.whole rest.2)

-- ---- the whole header

if_ok : (q : Bool) (x h : Header) (kind : AigerKind) → (if q then Ok x else Err kind) ≡ Ok h → (q ≡ true) × (h ≡ x)
if_ok true x h kind e = (refl, cc)
if_ok false x h kind e = absurd cc

abbrev pub NumbersText : List ℕ → ℕ → ℕ → ℕ → ℕ → ℕ → List ℕ → List ℕ → Type 0
NumbersText word m i l o a ns = Then (Is word) (Then (written.Field m) (Then (written.Field i) (Then (written.Field l) (Then (written.Field o) (Then (written.Field a) (Counts ns))))))

pub record HeaderRead (r : Circuit) (form : Form) (word text : List ℕ) : Type 0 where
  pub m : ℕ
  pub i : ℕ
  pub l : ℕ
  pub o : ℕ
  pub a : ℕ
  pub b : ℕ
  pub c : ℕ
  pub begun : List ℕ
  pub more : List ℕ
  pub line : ℕ
  pub whole : text ≡ begun ++ more
  pub sum : m ≡ i + l + a
  pub few : m < 2 ^ 28
  pub outputs : o < 2 ^ 28
  pub bad : b < 2 ^ 28
  pub constraints : c < 2 ^ 28
  pub is : NumbersText word m i l o a (b ∷ c ∷ 0 ∷ 0 ∷ []) begun
  pub on : outcome_at no_circuit (at (header form m i l o a b c) line 0 (place_at (header form m i l o a b c) 0)) more ≡ Says r

field_before : (n : ℕ) (G : List ℕ → Type 0) (ds text : List ℕ) → Number n ds → G text → Then (written.Field n) G (32 ∷ ds ++ text)
field_before n G ds text is rest = record { before = 32 ∷ ds; after = text; whole = refl; begins = record { before = 32 ∷ []; after = ds; whole = refl; begins = refl; ends = is }; ends = rest }

-- the numbers, one after the other, and the last ones
parts : (r : Circuit) (form : Form) (word text : List ℕ) (w : WordRead r form word text)
    (dm : NumberThen no_circuit r 1 0 (header form 0 0 0 0 0 0 0) fields.Maximum fields.Inputs w.more)
    (di : NumberThen no_circuit r 1 0 (header form dm.n 0 0 0 0 0 0) fields.Inputs fields.Latches dm.more)
    (dl : NumberThen no_circuit r 1 0 (header form dm.n di.n 0 0 0 0 0) fields.Latches fields.Outputs di.more)
    (dx : NumberThen no_circuit r 1 0 (header form dm.n di.n dl.n 0 0 0 0) fields.Outputs fields.Gates dl.more)
    (da : FieldRead no_circuit r 1 0 (header form dm.n di.n dl.n dx.n 0 0 0) fields.Gates dx.more)
    (nb nc : ℕ) → nb < 2 ^ 28 → nc < 2 ^ 28 → dm.n ≡ di.n + dl.n + da.n →
    (counts : CountsRead no_circuit r 1 0 (nb ∷ nc ∷ 0 ∷ 0 ∷ []) (header form dm.n di.n dl.n dx.n da.n nb nc) (da.byte ∷ da.more)) → HeaderRead r form word text
parts r form word text w dm di dl dx da nb nc lb lc sum counts = record {
  m = dm.n;
  i = di.n;
  l = dl.n;
  o = dx.n;
  a = da.n;
  b = nb;
  c = nc;
  begun = word ++ 32 ∷ (dm.begun ++ 32 ∷ (di.begun ++ 32 ∷ (dl.begun ++ 32 ∷ (dx.begun ++ 32 ∷ (da.begun ++ counts.begun)))));
  more = counts.more;
  line = counts.last_line;
  whole = w.whole ∙ (ap (λ (t : List ℕ). word ++ 32 ∷ t)
      (dm.whole ∙ ap (λ (t : List ℕ). dm.begun ++ 32 ∷ t)
      (di.whole ∙ ap (λ (t : List ℕ). di.begun ++ 32 ∷ t)
      (dl.whole ∙ ap (λ (t : List ℕ). dl.begun ++ 32 ∷ t)
      (dx.whole ∙ ap (λ (t : List ℕ). dx.begun ++ 32 ∷ t)
      (da.whole ∙ ap (λ (t : List ℕ). da.begun ++ t) counts.whole))))) ∙ regroup word dm.begun di.begun dl.begun dx.begun da.begun counts.begun counts.more);
  sum = sum;
  few = dm.small;
  outputs = dx.small;
  bad = lb;
  constraints = lc;
  is = record {
    before = word;
    after = 32 ∷ (dm.begun ++ 32 ∷ (di.begun ++ 32 ∷ (dl.begun ++ 32 ∷ (dx.begun ++ 32 ∷ (da.begun ++ counts.begun)))));
    whole = refl;
    begins = refl;
    ends = field_before dm.n _ dm.begun _ dm.is (field_before di.n _ di.begun _ di.is (field_before dl.n _ dl.begun _ dl.is (field_before dx.n _ dx.begun _ dx.is (field_before da.n _ da.begun counts.begun da.is counts.is))));
  };
  on = counts.on;
}
  where
    regroup : (w m i l o a z rest : List ℕ) → w ++ 32 ∷ (m ++ 32 ∷ (i ++ 32 ∷ (l ++ 32 ∷ (o ++ 32 ∷ (a ++ (z ++ rest))))))
        ≡ (w ++ 32 ∷ (m ++ 32 ∷ (i ++ 32 ∷ (l ++ 32 ∷ (o ++ 32 ∷ (a ++ z)))))) ++ rest
    regroup w m i l o a z rest = sym (simp append_assoc)

-- each number and its header
header_now : (r : Circuit) (line item : ℕ) (h x y : Header) (field : Field) (text : List ℕ) → ok_of x ≡ Ok y → outcome_at no_circuit (at y line item (Head field None)) text ≡ Says r →
    outcome_at no_circuit (at x line item (Head field None)) text ≡ Says r
header_now r line item h x y field text e on = subst (λ z. outcome_at no_circuit (at z line item (Head field None)) text ≡ Says r) (ok_header no_circuit r line item x y e) on

gates_on : (r : Circuit) (form : Form) (word text : List ℕ) (w : WordRead r form word text)
    (dm : NumberThen no_circuit r 1 0 (header form 0 0 0 0 0 0 0) fields.Maximum fields.Inputs w.more)
    (di : NumberThen no_circuit r 1 0 (header form dm.n 0 0 0 0 0 0) fields.Inputs fields.Latches dm.more)
    (dl : NumberThen no_circuit r 1 0 (header form dm.n di.n 0 0 0 0 0) fields.Latches fields.Outputs di.more)
    (dx : NumberThen no_circuit r 1 0 (header form dm.n di.n dl.n 0 0 0 0) fields.Outputs fields.Gates dl.more)
    (da : FieldRead no_circuit r 1 0 (header form dm.n di.n dl.n dx.n 0 0 0) fields.Gates dx.more) → HeaderRead r form word text
gates_on r form word text w dm di dl dx da =
    let sum = if_ok (dm.n == (di.n + dl.n + da.n)) (header form dm.n di.n dl.n dx.n da.n 0 0) da.next kinds.WrongMaximum da.with in
    let rest = gates_back no_circuit r 1 0 form dm.n di.n dl.n dx.n da.n da.byte da.more
    (subst (λ y. Follows no_circuit r 1 0 y fields.Gates da.byte da.more) sum.1 (follows no_circuit r 1 0 da.l da.next fields.Gates (Some da.n) da.byte da.more da.on)) in
    parts r form word text w dm di dl dx da rest.0 rest.1 rest.2 rest.3 (eqb-true dm.n (di.n + dl.n + da.n) sum.0) rest.4

outputs_on : (r : Circuit) (form : Form) (word text : List ℕ) (w : WordRead r form word text)
    (dm : NumberThen no_circuit r 1 0 (header form 0 0 0 0 0 0 0) fields.Maximum fields.Inputs w.more)
    (di : NumberThen no_circuit r 1 0 (header form dm.n 0 0 0 0 0 0) fields.Inputs fields.Latches dm.more)
    (dl : NumberThen no_circuit r 1 0 (header form dm.n di.n 0 0 0 0 0) fields.Latches fields.Outputs di.more)
    (dx : NumberThen no_circuit r 1 0 (header form dm.n di.n dl.n 0 0 0 0) fields.Outputs fields.Gates dl.more) → HeaderRead r form word text
outputs_on r form word text w dm di dl dx =
    gates_on r form word text w dm di dl dx (field_back no_circuit r 1 0 (header form dm.n di.n dl.n dx.n 0 0 0) fields.Gates dx.more
    (header_now r 1 0 dx.header (header form dm.n di.n dl.n dx.n 0 0 0) dx.header fields.Gates dx.more dx.with dx.on))

latches_on : (r : Circuit) (form : Form) (word text : List ℕ) (w : WordRead r form word text)
    (dm : NumberThen no_circuit r 1 0 (header form 0 0 0 0 0 0 0) fields.Maximum fields.Inputs w.more)
    (di : NumberThen no_circuit r 1 0 (header form dm.n 0 0 0 0 0 0) fields.Inputs fields.Latches dm.more)
    (dl : NumberThen no_circuit r 1 0 (header form dm.n di.n 0 0 0 0 0) fields.Latches fields.Outputs di.more) → HeaderRead r form word text
latches_on r form word text w dm di dl =
    outputs_on r form word text w dm di dl (number_then no_circuit r 1 0 (header form dm.n di.n dl.n 0 0 0 0) fields.Outputs fields.Gates dl.more refl refl
    (header_now r 1 0 dl.header (header form dm.n di.n dl.n 0 0 0 0) dl.header fields.Outputs dl.more dl.with dl.on))

inputs_on : (r : Circuit) (form : Form) (word text : List ℕ) (w : WordRead r form word text)
    (dm : NumberThen no_circuit r 1 0 (header form 0 0 0 0 0 0 0) fields.Maximum fields.Inputs w.more)
    (di : NumberThen no_circuit r 1 0 (header form dm.n 0 0 0 0 0 0) fields.Inputs fields.Latches dm.more) → HeaderRead r form word text
inputs_on r form word text w dm di =
    latches_on r form word text w dm di (number_then no_circuit r 1 0 (header form dm.n di.n 0 0 0 0 0) fields.Latches fields.Outputs di.more refl refl
    (header_now r 1 0 di.header (header form dm.n di.n 0 0 0 0 0) di.header fields.Latches di.more di.with di.on))

maximum_on : (r : Circuit) (form : Form) (word text : List ℕ) (w : WordRead r form word text)
    (dm : NumberThen no_circuit r 1 0 (header form 0 0 0 0 0 0 0) fields.Maximum fields.Inputs w.more) → HeaderRead r form word text
maximum_on r form word text w dm =
    inputs_on r form word text w dm (number_then no_circuit r 1 0 (header form dm.n 0 0 0 0 0 0) fields.Inputs fields.Latches dm.more refl refl
    (header_now r 1 0 dm.header (header form dm.n 0 0 0 0 0 0) dm.header fields.Inputs dm.more dm.with dm.on))

pub header_back : (r : Circuit) (form : Form) (word text : List ℕ) → WordRead r form word text → HeaderRead r form word text
header_back r form word text w = maximum_on r form word text w (number_then no_circuit r 1 0 (header form 0 0 0 0 0 0 0) fields.Maximum fields.Inputs w.more refl refl w.on)
