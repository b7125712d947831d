-- What a writer makes of a circuit is a text of it.
use Rattle.std.proofs.Common.{◌≡◌, ℕ, zero, suc, ◌+◌, ◌-◌, ◌*◌, ◌/◌, ◌%◌, ◌^◌, ◌<◌, ◌≤◌, Bool, true, false, List, [], ◌∷◌, ◌++◌, length, Some, refl, sym, subst, ◌∙◌, append_assoc, inl, inr, arith}
use Rattle.std.specs.Prelude.{Option, None, codes, decimal, nat_lt}
use Rattle.std.proofs.lemmas.Bool.{cases_Bool, le-leb, lt-ltb, ltb-true}
use Rattle.std.proofs.lemmas.Fmt.{decimal_by_steps}
use Rattle.std.proofs.lemmas.List.{length-append}
use Rattle.std.proofs.lemmas.List.Folds.{list_all-append}
use Rattle.circuit_rules.specs.Circuits.{Gate, Latch}
use Rattle.circuit_text.specs.Circuits.{Circuit}
use Rattle.circuit_text.specs.Written.{Counts, Each, Field, GateBytes, Groups, Header, Is, IsAiger, IsSized, LatchLine, LitLine, Number, Rest, Then, maximum, reset_code, decimal_from}
use Rattle.circuit_text.specs.Writing.{AreGates, AreLatches, AreLits, IsNumbered, binary_text, each, gate_bytes, groups, header_text, latch_text, lit_text, spaced}

-- ---- numbers

value_push : (v : ℕ) (ds : List ℕ) (d : ℕ) → decimal_from v (ds ++ d ∷ []) ≡ decimal_from v ds * 10 + (d - 48)
value_push v [] d = refl
value_push v (e ∷ ds) d = value_push (v * 10 + (e - 48)) ds d

one_digit : (n : ℕ) → n < 10 → Number n ((48 + n) ∷ [])
one_digit n small = record {
  some = omega arith;
  digits = rw (le-leb 48 (48 + n) (omega arith), le-leb (48 + n) 57 (omega arith)) refl;
  value = omega arith;
}

more_digits : (n : ℕ) (ds : List ℕ) → 10 ≤ n → Number (n / 10) ds → Number n (ds ++ (48 + n % 10) ∷ [])
more_digits n ds ten those = record {
  some = let some = those.some in let e = length-append ds ((48 + n % 10) ∷ []) in omega arith;
  digits = rw (list_all-append, those.digits, le-leb 48 (48 + n % 10) (omega arith), le-leb (48 + n % 10) 57 (omega arith)) refl;
  value = value_push 0 ds (48 + n % 10) ∙ rw those.value (omega arith);
}

decimal_is : (n : ℕ) → n < 2 ^ 64 → Number n (decimal n)
decimal_is n fits = decimal_by_steps Number one_digit more_digits n fits

group_small : (left n : ℕ) → n < 128 → groups left n ≡ n ∷ []
unfolding groups
group_small zero n lt = refl
group_small (suc left) n lt = rw (lt-ltb n 128 lt) refl

group_large : (left n : ℕ) → nat_lt n 128 ≡ false → groups (suc left) n ≡ (128 + n % 128) ∷ groups left (n / 128)
unfolding groups
group_large left n e = rw e refl

groups_are : (left n : ℕ) → n < 128 * 128 ^ left → Groups (suc left) n (groups left n)
groups_are zero n lt = subst (Groups 1 n) (sym (group_small zero n (omega arith))) (inl (omega arith, refl, refl))
groups_are (suc left) n lt = elim (cases_Bool (nat_lt n 128)) [
  | inl small ↦ subst (Groups (suc (suc left)) n) (sym (group_small (suc left) n (ltb-true n 128 small))) (inl (ltb-true n 128 small, refl, refl))
  | inr large ↦ subst (Groups (suc (suc left)) n) (sym (group_large left n large))
      (inr (omega arith, (n / 128, omega arith, groups_are left (n / 128) (next left n lt))))
]
  where
    next : (left n : ℕ) → n < 128 * 128 ^ suc left → n / 128 < 128 * 128 ^ left
    next left n lt = let e : 128 ^ suc left ≡ 128 ^ left * 128 = pow_suc left in omega arith
      where
        pow_suc : (k : ℕ) → 128 ^ suc k ≡ 128 ^ k * 128
        pow_suc k = search arith

-- ---- lines

field_is : (n : ℕ) (G : List ℕ → Type 0) (rest : List ℕ) → n < 2 ^ 64 → G rest → Then (Field n) G (32 ∷ (decimal n ++ rest))
field_is n G rest fits g = record {
  before = 32 ∷ decimal n;
  after = rest;
  whole = refl;
  begins = record { before = 32 ∷ []; after = decimal n; whole = refl; begins = refl; ends = decimal_is n fits };
  ends = g;
}

none_left : Counts (0 ∷ 0 ∷ []) (spaced [])
none_left = inl (refl, refl)

header_is : (c : Circuit) → IsSized c → Header (codes "aig") c (header_text c)
header_is c sized =
    let few = sized.variables in let outs = sized.outputs in let bads = sized.bad in let cons = sized.constraints in
    record {
      before = codes "aig";
      after = _;
      whole = refl;
      begins = refl;
      ends =
          field_is (maximum c) _ _ (omega arith) (field_is c.inputs _ _ (omega arith) (field_is (length c.latches) _ _ (omega arith) (field_is (length c.outputs) _ _ (omega arith)
          (field_is (length c.gates) _ _ (omega arith) (inr (field_is (length c.bad) (Counts (length c.constraints ∷ 0 ∷ 0 ∷ [])) _ (omega arith)
          (inr (field_is (length c.constraints) (Counts (0 ∷ 0 ∷ [])) (spaced []) (omega arith) none_left))))))));
    }

module _ (m : ℕ) (few : m < 2 ^ 28) where
  lits_are : (ls : List ℕ) (v : ℕ) → AreLits m ls → Each (LitLine m) v ls (each lit_text ls)
  lits_are [] v is = refl
  lits_are (l ∷ ls) v is =
      let le = is.0 in
      record {
        before = lit_text l;
        after = each lit_text ls;
        whole = refl;
        begins = record { before = decimal l; after = 10 ∷ []; whole = refl; begins = (is.0, decimal_is l (omega arith)); ends = refl };
        ends = lits_are ls (suc v) is.1;
      }

  reset_small : (o : Option Bool) (own : ℕ) → own < 2 ^ 63 → reset_code o own < 2 ^ 64
  reset_small (Some false) own lt = omega arith
  reset_small (Some true) own lt = omega arith
  reset_small None own lt = omega arith

  latches_are : (xs : List Latch) (v : ℕ) → v + length xs ≤ suc m → AreLatches m v xs → Each (LatchLine m) v xs (each latch_text xs)
  latches_are [] v le is = refl
  latches_are (x ∷ xs) v le is =
      let next = is.1 in
      let var : x.var ≡ v = is.0 in
      record {
        before = latch_text x;
        after = each latch_text xs;
        whole = refl;
        begins = (
          is.0,
          record {
            before = decimal x.next;
            after = spaced (reset_code x.reset (2 * x.var) ∷ []);
            whole = refl;
            begins = (is.1, decimal_is x.next (omega arith));
            ends = inr (field_is (reset_code x.reset (2 * x.var)) (Is (10 ∷ [])) (10 ∷ []) (reset_small x.reset (2 * x.var) (omega arith)) refl);
          },
        );
        ends = latches_are xs (suc v) (omega arith) is.2;
      }

  gates_are : (gs : List Gate) (v : ℕ) → v + length gs ≤ suc m → AreGates v gs → Each GateBytes v gs (each gate_bytes gs)
  gates_are [] v le is = refl
  gates_are (g ∷ gs) v le is =
      let var : g.var ≡ v = is.0 in let left = is.1 in let right = is.2 in
      record {
        before = gate_bytes g;
        after = each gate_bytes gs;
        whole = refl;
        begins = (
          is.0,
          is.1,
          is.2,
          record {
            before = groups 4 (2 * g.var - g.left);
            after = groups 4 (g.left - g.right);
            whole = refl;
            begins = subst (λ (w : ℕ). Groups 5 (2 * w - g.left) (groups 4 (2 * g.var - g.left))) var (groups_are 4 (2 * g.var - g.left) (omega arith));
            ends = groups_are 4 (g.left - g.right) (omega arith);
          },
        );
        ends = gates_are gs (suc v) (omega arith) is.3;
      }

pub binary_text_is : (c : Circuit) (rest : List ℕ) → IsNumbered c → Rest c rest → IsAiger (binary_text c ++ rest) c
binary_text_is c rest is after =
    let few = is.sized.variables in
    record {
      sized = is.sized;
      form = inl (record {
        before = header_text c;
        after = each latch_text c.latches ++ (each lit_text c.outputs ++ (each lit_text c.bad ++ (each lit_text c.constraints ++ (each gate_bytes c.gates ++ rest))));
        whole = simp append_assoc;
        begins = header_is c is.sized;
        ends = record {
          before = each latch_text c.latches;
          after = _;
          whole = refl;
          begins = latches_are (maximum c) is.sized.variables c.latches (suc c.inputs) (omega arith) is.latches;
          ends = record {
            before = each lit_text c.outputs;
            after = _;
            whole = refl;
            begins = lits_are (maximum c) is.sized.variables c.outputs 0 is.outputs;
            ends = record {
              before = each lit_text c.bad;
              after = _;
              whole = refl;
              begins = lits_are (maximum c) is.sized.variables c.bad 0 is.bad;
              ends = record {
                before = each lit_text c.constraints;
                after = _;
                whole = refl;
                begins = lits_are (maximum c) is.sized.variables c.constraints 0 is.constraints;
                ends = record {
                  before = each gate_bytes c.gates;
                  after = rest;
                  whole = refl;
                  begins = gates_are (maximum c) is.sized.variables c.gates (suc (c.inputs + length c.latches)) (omega arith) is.gates;
                  ends = after;
                };
              };
            };
          };
        };
      });
    }
