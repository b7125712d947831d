-- Hashes, literal by literal, and where variables are named anew.
use Rattle.std.proofs.Common.{◌≡◌, ℕ, ◌+◌, ◌-◌, ◌*◌, ◌/◌, ◌^◌, ◌<◌, cond, not, List, Option, Some, None, length, get_or, drop, refl, arith, ◌⊎◌, ◌≤◌, true, false, ◌||◌}
use Rattle.std.proofs.Common.{ltb, [], ◌∷◌, sym, ap, ◌∙◌}
use Rattle.std.specs.HashMap.{HashMap, hash_map_len}
use Rattle.std.specs.Int.Bits.{bit_xor, xor_assoc, xor_zero_r}
use Rattle.std.specs.declared.hash.BuildHasherDefault.{BuildHasherDefault}
use Rattle.std.specs.declared.hash.FoldHasher.{FoldHasher}
use Rattle.std.proofs.lemmas.Bool.Decides.{nat_tests}
use Rattle.std.proofs.lemmas.List.{at_drop_more, at_drop_all, nil_from_length}
use Rattle.sat_formula.specs.declared.lit.Var.{Var}
use Rattle.sat_rules.specs.Clauses.{is_negative, var_of, has}
use Rattle.checker_rules.specs.State.{clause_hash, lit_code_hash, named_hash, xor_hash, Stored}
use Rattle.checker_rules.specs.Buckets.{of_hash}
use Rattle.checker_rules.specs.Check.{apply_name}
use Rattle.clause_store.specs.declared.clauses.Clauses.{Clauses}
use Rattle.clause_store.specs.declared.hash.ClauseHasher.{ClauseHasher}
use Rattle.clause_store.specs.Names.{names_of, AgreeOnHeld}
use Rattle.clause_store.specs.Counts.{times_held}
use Rattle.clause_store.specs.StateOf.{applied_of, hash_of}
use Rattle.clause_store.specs.Store.{IsIndexed, IsStore}
use Rattle.clause_store.specs.View.{stored_list, stored_at}
use Rattle.clause_store.proofs.EditLemmas.{is_store-by}

pub named_hash-Some : (v m : ℕ) → named_hash (Some v) m ≡ lit_code_hash (2 * v + cond (not (is_negative m)) 0 1)
unfolding named_hash
named_hash-Some v m = grind (arith, nat_tests)

pub named_hash-None : (m : ℕ) → named_hash None m ≡ lit_code_hash (m + 2 ^ 29)
unfolding named_hash
named_hash-None m = refl

module _ (names : ℕ → Option ℕ) where
  -- what comes after the first literals is still to be combined
  pub xor_hash-from : (c : List ℕ) (i m n : ℕ) → i < length c → m ≡ get_or c i m →
      bit_xor (bit_xor n (named_hash (names (var_of m)) m)) (xor_hash names (drop (i + 1) c)) ≡ bit_xor n (xor_hash names (drop i c))
  unfolding xor_hash
  xor_hash-from c i m n w here =
      let rest = xor_hash names (drop (i + 1) c) in
      cc (xor_assoc n (named_hash (names (var_of m)) m) rest, at_drop_more (xor_hash names) c i m w)

  -- at the end nothing is
  pub xor_hash-all : (c : List ℕ) (i n : ℕ) → i ≡ length c → bit_xor n (xor_hash names (drop i c)) ≡ xor_hash names c → n ≡ xor_hash names c
  unfolding xor_hash
  xor_hash-all c i n e h = cc (xor_zero_r n, at_drop_all (xor_hash names) c i (omega (arith, e)))

-- where no variable has a name
pub names_of-empty : (m : HashMap ℕ Var (BuildHasherDefault FoldHasher)) → hash_map_len m ≡ 0 → (v : ℕ) → names_of m v ≡ None
names_of-empty m none v = cc (nil_from_length m.entries none)

pub xor_hash-unnamed : (names : ℕ → Option ℕ) (c : List ℕ) → ((v : ℕ) → names v ≡ None) → xor_hash names c ≡ xor_hash (λ v. None) c
xor_hash-unnamed names c none = λ i. xor_hash (λ v. none v i) c

pub clause_hash-is : (names : ℕ → Option ℕ) (width : ℕ) (c : List ℕ) → clause_hash names width c ≡ xor_hash names c / 2 ^ (64 - width)
unfolding clause_hash
clause_hash-is names width c = refl

-- a variable that no counted clause holds is named anew
pub agree_on_held-apart : (counts : List ℕ) (f g : ℕ → Option ℕ) (p : ℕ × Option ℕ) → ((l : ℕ) → var_of l ≡ p.0 → get_or counts l 0 ≡ 0) →
    AgreeOnHeld counts f g → AgreeOnHeld counts f (apply_name g p)
agree_on_held-apart counts f g p none agree l some = grind (arith, nat_tests, agree l some, none l)

-- no counted clause holds a literal of the variable
pub none-held : (counts : List ℕ) (v : ℕ) → (ltb 0 (get_or counts (2 * v) 0) || ltb 0 (get_or counts (2 * v + 1) 0)) ≡ false → (l : ℕ) → var_of l ≡ v → get_or counts l 0 ≡ 0
none-held counts v h l e =
    let either : (l ≡ 2 * v) ⊎ (l ≡ 2 * v + 1) = grind arith in grind (arith, nat_tests, either)

-- names that change nothing
pub agree_on_held-same : (counts : List ℕ) (f g : ℕ → Option ℕ) → g ≡ f → AgreeOnHeld counts f g
agree_on_held-same counts f g same l some = sym (ap (λ names. names (var_of l)) same)

module _ (f g : ℕ → Option ℕ) where
  xor_hash-agree : (c : List ℕ) → ((m : ℕ) → has m c ≡ true → f (var_of m) ≡ g (var_of m)) → xor_hash f c ≡ xor_hash g c
  unfolding xor_hash
  xor_hash-agree [] agree = refl
  xor_hash-agree (m ∷ ms) agree = cc (agree m (grind (arith, nat_tests)), xor_hash-agree ms (λ k h. agree k (grind arith)))

  pub of_hash-agree : (counts : List ℕ) (width k : ℕ) → AgreeOnHeld counts f g → (es : List Stored) → ((l : ℕ) → times_held l es ≤ get_or counts l 0) →
      of_hash (clause_hash f width) k es ≡ of_hash (clause_hash g width) k es
  of_hash-agree counts width k agree [] held = refl
  of_hash-agree counts width k agree (e ∷ es) held =
      let rest = of_hash-agree counts width k agree es (λ l. let n = held l in omega (arith, n)) in
      let xor = xor_hash-agree e.lits (λ m h. agree m (let n = held m in let one : cond (has m e.lits) 1 0 ≡ 1 = ap {B = ℕ} (λ b. cond b 1 0) h in omega (arith, n, one))) in
      let same : clause_hash f width e.lits ≡ clause_hash g width e.lits = cc (clause_hash-is f width e.lits, clause_hash-is g width e.lits, xor) in
      cc (same, rest)

-- so the buckets need not be built anew
pub is_store-renamed : (h h' : ClauseHasher) (cs : Clauses) → h'.hash_bits ≡ h.hash_bits → AgreeOnHeld cs.lit_counts (applied_of h) (applied_of h') → IsStore h cs → IsStore h' cs
is_store-renamed h h' cs width agree s = is_store-by h' cs (stored_list cs) filed s.garbage s.units s.counts
  where
    filed : IsIndexed h' cs (stored_list cs)
    filed =
        let some_bits : 0 < h'.hash_bits = rw width s.filed.some_bits in let bits : h'.hash_bits ≤ 64 = rw width s.filed.bits in
        let bucketed : (k : ℕ) → stored_at cs k ≡ of_hash (hash_of h') k (stored_list cs) = λ k. s.filed.bucketed k ∙
        of_hash-agree (applied_of h) (applied_of h') cs.lit_counts h.hash_bits k agree (stored_list cs) (λ l. let n = s.counts.held l in omega (arith, n))
        ∙ ap (λ n. of_hash (clause_hash (applied_of h') n) k (stored_list cs)) (sym width) in
        assumption
