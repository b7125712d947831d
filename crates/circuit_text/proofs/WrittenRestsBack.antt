-- Symbols and a comment that are read: of which texts they are.
use Rattle.std.proofs.Common.{◌≡◌, ℕ, zero, suc, ◌+◌, ◌^◌, ◌<◌, ◌≤◌, Bool, true, false, List, [], ◌∷◌, ◌++◌, length, Some, refl, sym, ap, subst, ◌∙◌, append_assoc, inl, inr, arith}
use Rattle.std.specs.Prelude.{Option, None, ◌⊎◌, ◌==◌, not, nat_lt, if◌then◌else◌}
use Rattle.std.specs.List.{list_all}
use Rattle.std.proofs.lemmas.Bool.{cases_Bool, eqb-true, ltb-true}
use Rattle.std.proofs.lemmas.List.{length-append}
use Rattle.sat_formula.specs.Bytes.{is_digit, is_lf}
use Rattle.sat_formula.specs.Outcome as dimacs
use Rattle.circuit_text.specs.declared.fault.AigerKind.TheVariants as kinds
use Rattle.circuit_text.specs.declared.fault.Location.{Location}
use Rattle.circuit_text.specs.declared.header.Form.{Form}
use Rattle.circuit_text.specs.declared.header.Header.{Header}
use Rattle.circuit_text.specs.declared.spot.Place.TheVariants.{AfterC, LineStart, Name, Position}
use Rattle.circuit_text.specs.declared.spot.After.{After}
use Rattle.circuit_text.specs.declared.spot.After.TheVariants.{Next, Stops}
use Rattle.circuit_text.specs.automaton.Aigers.{Says, outcome_at}
use Rattle.circuit_text.specs.Circuits.{Circuit}
use Rattle.circuit_text.specs.automaton.Headers.{symbols_of}
use Rattle.circuit_text.specs.automaton.Places.{after, after_c, in_name, in_position, line_start, location, symbol_start}
use Rattle.circuit_text.specs.Written.{Each, IsKind, IsSized, Number, Rest, Symbol}
use Rattle.circuit_text.proofs.WrittenHeaders.{header_of, if_not, if_on}
use Rattle.circuit_text.proofs.WrittenNumbers.{DigitsRead, at, byte_read, digits_back, no_end, onward, saturated_number}
use Rattle.circuit_text.proofs.WrittenRests.{after_c_digit, comment_read, position_place}

not_false : (q : Bool) → q ≡ false → not q ≡ true
not_false true e = absurd cc
not_false false e = refl

lf_ends : (q : Bool) (a b : After) → q ≡ true → (if q then a else b) ≡ a
lf_ends true a b e = refl
lf_ends false a b e = absurd cc

lf_not : (q : Bool) (a b : After) → q ≡ false → (if q then a else b) ≡ b
lf_not true a b e = absurd cc
lf_not false a b e = refl

module _ (c r : Circuit) (h : Header) (item : ℕ) where
  pub record NameRead (text : List ℕ) : Type 0 where
    pub name : List ℕ
    pub more : List ℕ
    pub line : ℕ
    pub whole : text ≡ name ++ 10 ∷ more
    pub in_line : list_all (λ b. not (is_lf b)) name ≡ true
    pub on : outcome_at c (at h line item LineStart) more ≡ Says r

  name_byte : (line b : ℕ) (more : List ℕ) → outcome_at c (at h line item Name) (b ∷ more) ≡ Says r →
      onward c (location (at h line item Name)) (in_name (at h line item Name) b) more ≡ Says r
  unfolding after
  name_byte line b more e = sym (byte_read c (at h line item Name) b more) ∙ e

  name_back : (line : ℕ) (text : List ℕ) → outcome_at c (at h line item Name) text ≡ Says r → NameRead text
  name_back line [] e = absurd (no_end c r (at h line item Name) refl e)
  name_back line (b ∷ more) e = elim (cases_Bool (is_lf b)) [
    | inl ends ↦ record {
      name = [];
      more = more;
      line = dimacs.next_line line;
      whole = ap (λ (x : ℕ). x ∷ more) (eqb-true b 10 ends);
      in_line = refl;
      on = rw ends at (name_byte line b more e);
    }
    | inr other ↦ further b more other (name_back line more (rw other at (name_byte line b more e)))
  ]
    where
      further : (b : ℕ) (more : List ℕ) → is_lf b ≡ false → NameRead more → NameRead (b ∷ more)
      further b more other d = record {
        name = b ∷ d.name;
        more = d.more;
        line = d.line;
        whole = ap (λ (l : List ℕ). b ∷ l) d.whole;
        in_line = rw other d.in_line;
        on = d.on;
      }

  pub record PositionRead (count : ℕ) (text : List ℕ) : Type 0 where
    pub n : ℕ
    pub begun : List ℕ
    pub rest : List ℕ
    pub whole : text ≡ begun ++ 32 ∷ rest
    pub is : Number n begun
    pub small : n < count
    pub named : NameRead rest

  position_back : (count line : ℕ) (text : List ℕ) → count < 2 ^ 28 → outcome_at c (at h line item (Position count None)) text ≡ Says r → PositionRead count text
  position_back count line text few e = by_digits (digits_back (λ v. Position count v) (λ s d b. in_position s count d b) (position_place count) c h line item r None text e)
    where
      by_digits : DigitsRead (λ v. Position count v) (λ s d b. in_position s count d b) (position_place count) c h line item None text r → PositionRead count text
      by_digits d =
          let l = location (at h line item (Position count (Some d.n))) in
          let space = if_not c r l d.more (d.byte == 32) (if nat_lt d.n count then Next (at h line item Name) else Stops kinds.SymbolOutOfRange) kinds.Malformed d.on in
          let range = if_on c r l d.more (nat_lt d.n count) (Next (at h line item Name)) kinds.SymbolOutOfRange space.1 in
          let small = ltb-true d.n count range.0 in
          record {
            n = d.n;
            begun = d.begun;
            rest = d.more;
            whole = d.whole ∙ ap (λ (b : ℕ). d.begun ++ b ∷ d.more) (eqb-true d.byte 32 space.0);
            is = saturated_number d.n d.begun d.all d.value (omega (arith, small, few));
            small = small;
            named = name_back line d.more range.1;
          }

  -- the first byte of a line
  start_byte : (line b : ℕ) (more : List ℕ) → outcome_at c (at h line item LineStart) (b ∷ more) ≡ Says r →
      onward c (location (at h line item LineStart)) (line_start (at h line item LineStart) b) more ≡ Says r
  unfolding after
  start_byte line b more e = sym (byte_read c (at h line item LineStart) b more) ∙ e

  after_c_byte : (line b : ℕ) (more : List ℕ) → outcome_at c (at h line item AfterC) (b ∷ more) ≡ Says r →
      onward c (location (at h line item AfterC)) (after_c (at h line item AfterC) b) more ≡ Says r
  unfolding after
  after_c_byte line b more e = sym (byte_read c (at h line item AfterC) b more) ∙ e

  symbol_start_back : (l : Location) (line : ℕ) (o : Option ℕ) (more : List ℕ) → onward c l (symbol_start (at h line item LineStart) o) more ≡ Says r →
      (count : ℕ) × (o ≡ Some count) × (outcome_at c (at h line item (Position count None)) more ≡ Says r)
  symbol_start_back l line None more e = absurd cc
  symbol_start_back l line (Some count) more e = (count, refl, e)

  -- after a `c`: a comment, or the position of a constraint's symbol
  c_back : (line : ℕ) (text : List ℕ) → outcome_at c (at h line item AfterC) text ≡ Says r →
      ((any : List ℕ) × (text ≡ 10 ∷ any) × (Says (record c { inputs = h.inputs }) ≡ Says r)) ⊎ (outcome_at c (at h line item (Position h.constraints None)) text ≡ Says r)
  c_back line [] e = absurd (no_end c r (at h line item AfterC) refl e)
  c_back line (b ∷ more) e = elim (cases_Bool (is_lf b)) [
    | inl ends ↦ inl (more, ap (λ (x : ℕ). x ∷ more) (eqb-true b 10 ends), sym (comment_read c h item more (dimacs.next_line line)) ∙ rw ends at (after_c_byte line b more e))
    | inr other ↦ elim (cases_Bool (is_digit b)) [
      | inl digit ↦ inr (sym (after_c_digit c h item line b more digit) ∙ e)
      | inr none ↦ absurd (no_digit b more other none (after_c_byte line b more e))
    ]
  ]
    where
      no_digit : (b : ℕ) (more : List ℕ) → is_lf b ≡ false → is_digit b ≡ false → onward c (location (at h line item AfterC)) (after_c (at h line item AfterC) b) more ≡ Says r → ⊥
      no_digit b more other none p = let bad = rw (other, none) at p in absurd cc

-- ---- kinds

some_is : (m n : ℕ) → Some m ≡ Some n → n ≡ m
some_is m n e = cc

module _ (form : Form) (x : Circuit) where
  kind_of : (b count : ℕ) → symbols_of (header_of form x) b ≡ Some count → IsKind x b count ⊎ (count ≡ 0)
  kind_of b count e = i (b == 105) refl e
    where
      f : (q : Bool) → (b == 102) ≡ q → (if q then Some 0 else None) ≡ Some count → IsKind x b count ⊎ (count ≡ 0)
      f true is p = inr (some_is 0 count p)
      f false is p = absurd cc

      j : (q : Bool) → (b == 106) ≡ q → (if q then Some 0 else (if b == 102 then Some 0 else None)) ≡ Some count → IsKind x b count ⊎ (count ≡ 0)
      j true is p = inr (some_is 0 count p)
      j false is p = f (b == 102) refl p

      bad : (q : Bool) → (b == 98) ≡ q → (if q then Some (length x.bad) else (if b == 106 then Some 0 else (if b == 102 then Some 0 else None))) ≡ Some count → IsKind x b count ⊎ (count ≡ 0)
      bad true is p = inl (inr (inr (inr (inl (eqb-true b 98 is, some_is (length x.bad) count p)))))
      bad false is p = j (b == 106) refl p

      o : (q : Bool) → (b == 111) ≡ q →
          (if q then Some (length x.outputs) else (if b == 98 then Some (length x.bad) else (if b == 106 then Some 0 else (if b == 102 then Some 0 else None)))) ≡ Some count → IsKind x b count ⊎ (count ≡ 0)
      o true is p = inl (inr (inr (inl (eqb-true b 111 is, some_is (length x.outputs) count p))))
      o false is p = bad (b == 98) refl p

      l : (q : Bool) → (b == 108) ≡ q →
          (if q then Some (length x.latches) else (if b == 111 then Some (length x.outputs) else (if b == 98 then Some (length x.bad) else (if b == 106 then Some 0 else (if b == 102 then Some 0 else None))))) ≡ Some count →
          IsKind x b count ⊎ (count ≡ 0)
      l true is p = inl (inr (inl (eqb-true b 108 is, some_is (length x.latches) count p)))
      l false is p = o (b == 111) refl p

      i : (q : Bool) → (b == 105) ≡ q →
          (if q then Some x.inputs else (if b == 108 then Some (length x.latches) else (if b == 111 then Some (length x.outputs) else (if b == 98 then Some (length x.bad) else (if b == 106 then Some 0 else (if b == 102 then Some 0 else None)))))) ≡ Some count →
          IsKind x b count ⊎ (count ≡ 0)
      i true is p = inl (inl (eqb-true b 105 is, some_is x.inputs count p))
      i false is p = l (b == 108) refl p

module _ (form : Form) (x c r : Circuit) (sized : IsSized x) (item : ℕ) where
  -- all of it
  pub record RestRead (text : List ℕ) : Type 0 where
    pub is : Rest x text
    pub same : r ≡ record c { inputs = x.inputs }

  says_is : (a b : Circuit) → Says a ≡ Says b → b ≡ a
  says_is a b e = cc

  count_small : (letter count : ℕ) → IsKind x letter count → count < 2 ^ 28
  count_small letter count (inl e) = let few = sized.variables in let is = e.1 in omega arith
  count_small letter count (inr (inl e)) = let few = sized.variables in let is = e.1 in omega arith
  count_small letter count (inr (inr (inl e))) = let few = sized.outputs in let is = e.1 in omega arith
  count_small letter count (inr (inr (inr (inl e)))) = let few = sized.bad in let is = e.1 in omega arith
  count_small letter count (inr (inr (inr (inr e)))) = let few = sized.constraints in let is = e.1 in omega arith

  -- a symbol and the rest
  one_symbol : (letter count : ℕ) (text : List ℕ) (kind : IsKind x letter count) (p : PositionRead c r (header_of form x) item count text) → RestRead p.named.more → RestRead (letter ∷ text)
  one_symbol letter count text kind p d = record {
    is = (
      p.named.name ∷ d.is.0,
      record {
        before = (letter ∷ (p.begun ++ 32 ∷ (p.named.name ++ 10 ∷ []))) ++ d.is.1.before;
        after = d.is.1.after;
        whole = ap (λ (l : List ℕ). letter ∷ l) (p.whole ∙ ap (λ (l : List ℕ). p.begun ++ 32 ∷ l) (p.named.whole ∙ ap (λ (l : List ℕ). p.named.name ++ 10 ∷ l) d.is.1.whole)) ∙ regroup p.begun p.named.name d.is.1.before d.is.1.after;
        begins = record {
          before = letter ∷ (p.begun ++ 32 ∷ (p.named.name ++ 10 ∷ []));
          after = d.is.1.before;
          whole = refl;
          begins = record {
            letter = letter;
            count = count;
            position = p.n;
            kind = kind;
            small = p.small;
            in_line = p.named.in_line;
            line = record {
              before = letter ∷ [];
              after = p.begun ++ 32 ∷ (p.named.name ++ 10 ∷ []);
              whole = refl;
              begins = refl;
              ends = record { before = p.begun; after = 32 ∷ (p.named.name ++ 10 ∷ []); whole = refl; begins = p.is; ends = refl };
            };
          };
          ends = each_on d.is.0 d.is.1.before d.is.1.begins;
        };
        ends = d.is.1.ends;
      },
    );
    same = d.same;
  }
    where
      regroup : (a b y z : List ℕ) → letter ∷ (a ++ 32 ∷ (b ++ 10 ∷ (y ++ z))) ≡ ((letter ∷ (a ++ 32 ∷ (b ++ 10 ∷ []))) ++ y) ++ z
      regroup a b y z = sym (simp append_assoc)

      each_from : (names : List (List ℕ)) (v w : ℕ) (t : List ℕ) → Each (λ v name. Symbol x name) v names t → Each (λ v name. Symbol x name) w names t
      each_from [] v w t e = e
      each_from (name ∷ names) v w t e = record { before = e.before; after = e.after; whole = e.whole; begins = e.begins; ends = each_from names (suc v) (suc w) e.after e.ends }

      each_on : (names : List (List ℕ)) (t : List ℕ) → Each (λ v name. Symbol x name) 0 names t → Each (λ v name. Symbol x name) 1 names t
      each_on names t e = each_from names 0 1 t e

  shorter : (count : ℕ) (text : List ℕ) (p : PositionRead c r (header_of form x) item count text) → length p.named.more < length text
  shorter count text p =
      let e : length text ≡ length p.begun + suc (length p.named.name + suc (length p.named.more)) =
      ap length (p.whole ∙ ap (λ (l : List ℕ). p.begun ++ 32 ∷ l) p.named.whole) ∙ length-append p.begun (32 ∷ (p.named.name ++ 10 ∷ p.named.more))
      ∙ ap (λ (n : ℕ). length p.begun + suc n) (length-append p.named.name (10 ∷ p.named.more)) in
      omega arith

  empty_rest : r ≡ record c { inputs = x.inputs } → RestRead []
  empty_rest e = record { is = ([], record { before = []; after = []; whole = refl; begins = refl; ends = inl refl }); same = e }

  comment_rest : (any : List ℕ) → r ≡ record c { inputs = x.inputs } → RestRead (99 ∷ 10 ∷ any)
  comment_rest any e = record { is = ([], record { before = []; after = 99 ∷ 10 ∷ any; whole = refl; begins = refl; ends = inr (any, refl) }); same = e }

  done : (line : ℕ) → outcome_at c (at (header_of form x) line item LineStart) [] ≡ Says r → Says (record c { inputs = x.inputs }) ≡ Says r
  unfolding outcome_at
  done line e = e

  abbrev Again : List ℕ → Type 0
  Again more = (count : ℕ) (p : PositionRead c r (header_of form x) item count more) → RestRead p.named.more

  of_position : (b letter count line : ℕ) (more : List ℕ) → Again more → b ≡ letter → IsKind x letter count →
      outcome_at c (at (header_of form x) line item (Position count None)) more ≡ Says r → RestRead (b ∷ more)
  of_position b letter count line more again is kind on =
      let p = position_back c r (header_of form x) item count line more (count_small letter count kind) on in
      subst (λ (n : ℕ). RestRead (n ∷ more)) (sym is) (one_symbol letter count more kind p (again count p))

  of_c : (b line : ℕ) (more : List ℕ) → Again more → b ≡ 99 → ((any : List ℕ) × (more ≡ 10 ∷ any) × (Says (record c { inputs = x.inputs }) ≡ Says r))
      ⊎ (outcome_at c (at (header_of form x) line item (Position (length x.constraints) None)) more ≡ Says r) → RestRead (b ∷ more)
  of_c b line more again is (inl z) =
      subst RestRead (sym (ap (λ (n : ℕ). n ∷ more) is ∙ ap (λ (l : List ℕ). 99 ∷ l) z.1)) (comment_rest z.0 (says_is (record c { inputs = x.inputs }) r z.2))
  of_c b line more again is (inr z) = of_position b 99 (length x.constraints) line more again is (inr (inr (inr (inr (refl, refl))))) z

  no_position : (count line : ℕ) (more : List ℕ) → count ≡ 0 → outcome_at c (at (header_of form x) line item (Position count None)) more ≡ Says r → ⊥
  no_position count line more e on = let p = position_back c r (header_of form x) item count line more (omega arith) on in let less = p.small in omega arith

  of_symbol : (b line : ℕ) (more : List ℕ) → Again more →
      (count : ℕ) × (symbols_of (header_of form x) b ≡ Some count) × (outcome_at c (at (header_of form x) line item (Position count None)) more ≡ Says r) → RestRead (b ∷ more)
  of_symbol b line more again z = elim (kind_of form x b z.0 z.1) [
    | inl kind ↦ of_position b b z.0 line more again refl kind z.2
    | inr none ↦ absurd (no_position z.0 line more none z.2)
  ]

  one_line : (b line : ℕ) (more : List ℕ) → Again more → outcome_at c (at (header_of form x) line item LineStart) (b ∷ more) ≡ Says r → RestRead (b ∷ more)
  one_line b line more again e = elim (cases_Bool (b == 99)) [
    | inl is ↦ of_c b line more again (eqb-true b 99 is) (c_back c r (header_of form x) item line more (rw is at (start_byte c r (header_of form x) item line b more e)))
    | inr other ↦ of_symbol b line more again (symbol_start_back c r (header_of form x) item (location (at (header_of form x) line item LineStart)) line (symbols_of (header_of form x) b) more
        (rw other at (start_byte c r (header_of form x) item line b more e)))
  ]

  pub rest_back : (left line : ℕ) (text : List ℕ) → length text ≤ left → outcome_at c (at (header_of form x) line item LineStart) text ≡ Says r → RestRead text
  rest_back left line [] le e = empty_rest (says_is (record c { inputs = x.inputs }) r (done line e))
  rest_back zero line (b ∷ more) le e = absurd (omega arith)
  rest_back (suc left) line (b ∷ more) le e =
      one_line b line more (λ count p. rest_back left p.named.line p.named.more (let less = shorter count more p in omega (arith, less, le)) p.named.on) e
