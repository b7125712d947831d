-- The front of a list, read at once.
use Rattle.std.proofs.Common.{◌≡◌, ℕ, zero, suc, ◌+◌, ◌-◌, ◌<◌, ◌≤◌, List, [], ◌∷◌, ◌++◌, length, get_or, take, drop, Ok, Err, refl, sym, ap, ◌∙◌, arith, append_assoc, zero-add, length-append}
use Rattle.std.proofs.Math.Seq.{take-add}
use Rattle.std.proofs.lemmas.List.{length-drop, take_rest}
use Rattle.std.specs.Io.KnownBytes.{Consumes}
use Rattle.proof_bytes.specs.Reading.{Found, ◌>>=◌, number_at}
use Rattle.proof_bytes.specs.Fields.{list_at, many_at}
use Rattle.proof_bytes.specs.Taking.{Leads, IsBytes}
use Rattle.proof_bytes.specs.Ahead.{ReadAs}
use Rattle.proof_bytes.proofs.Leading.{Known, leads_on}
use Rattle.proof_bytes.proofs.Fronts.{leads_ahead}
use Rattle.proof_bytes.proofs.FieldLemmas.{list_begins, with_front, nothing_before}

-- after one of two bytes, or after both
pub two_more : (xs : List ℕ) (i n : ℕ) → i + 1 < length xs → n ≤ 2 →
    take (i + n) xs ≡ take i xs ++ take n (get_or xs i 0 ∷ get_or xs (i + 1) 0 ∷ [])
two_more (x ∷ y ∷ xs) zero (suc (suc (suc n))) lt le = absurd (omega arith)
two_more (x ∷ y ∷ xs) zero (suc (suc zero)) lt le = refl
two_more (x ∷ y ∷ xs) zero _ lt le = refl
two_more (x ∷ y ∷ xs) (suc i) n lt le =
    let e : suc i + n ≡ suc (i + n) = omega arith in
    let f : suc i + 1 ≡ suc (i + 1) = omega arith in
    rw (e, f) (ap (λ (l : List ℕ). x ∷ l) (two_more (y ∷ xs) i n (omega arith) le))
two_more _ i n lt le = absurd (omega arith)

-- after this many of the bytes that are left
module _ (xs : List ℕ) (i n : ℕ) where
  pub rest_more : take (i + n) xs ≡ take i xs ++ take n (take (length xs - i) (drop i xs))
  rest_more = take-add i n xs ∙ ap (λ (l : List ℕ). take i xs ++ take n l) (sym (take_rest xs i))

  pub rest_within : i ≤ length xs → n ≤ length (take (length xs - i) (drop i xs)) → i + n ≤ length xs
  rest_within le lt = let rest = ap length (take_rest xs i) ∙ length-drop i xs in omega arith

module _ {A : Type 0} (item : List ℕ → Found A) where
  -- the first n, and what comes after them
  abbrev after_first : ℕ → List A × List ℕ → Found (List A)
  after_first m first = with_front first.0 (many_at item m first.1)

  abbrev with_first : A → List A × List ℕ → Found (List A)
  with_first x others = Ok (x ∷ others.0, others.1)

  abbrev after_one : ℕ → A × List ℕ → Found (List A)
  after_one n one = many_at item n one.1 >>= with_first one.0

  longer_front : (x : A) (front : List A) (read : Found (List A)) → (with_front front read >>= with_first x) ≡ with_front (x ∷ front) read
  longer_front x front (Ok r) = refl
  longer_front x front (Err e) = refl

  first_of_all : (m : ℕ) (x : A) (read : Found (List A)) → ((read >>= after_first m) >>= with_first x) ≡ ((read >>= with_first x) >>= after_first m)
  first_of_all m x (Ok r) = longer_front x r.0 (many_at item m r.1)
  first_of_all m x (Err e) = refl

  one_of_all : (n m : ℕ) → ((bytes : List ℕ) → many_at item (n + m) bytes ≡ (many_at item n bytes >>= after_first m)) → (read : Found A) →
      (read >>= after_one (n + m)) ≡ ((read >>= after_one n) >>= after_first m)
  one_of_all n m fewer (Ok x) = ap (λ r. r >>= with_first x.0) (fewer x.1) ∙ first_of_all m x.0 (many_at item n x.1)
  one_of_all n m fewer (Err e) = refl

  many_more : (n m : ℕ) (bytes : List ℕ) → many_at item (n + m) bytes ≡ (many_at item n bytes >>= after_first m)
  unfolding many_at
  many_more zero m bytes = ap (λ k. many_at item k bytes) (zero-add m) ∙ nothing_before (many_at item m bytes)
  many_more (suc n) m bytes =
      let e : suc n + m ≡ suc (n + m) = omega arith in
      ap (λ k. many_at item k bytes) e ∙ one_of_all n m (many_more n m) (item bytes)

  pub none_read : ReadAs item [] []
  unfolding many_at
  none_read more = refl

  module _ (taken : List ℕ) (items : List A) (so_far : ReadAs item taken items) where
    -- what is read of the bytes that come after
    then_read : (k m : ℕ) → k ≡ length items + m → (more : List ℕ) → many_at item k (taken ++ more) ≡ with_front items (many_at item m more)
    then_read k m e more = ap (λ j. many_at item j (taken ++ more)) e ∙ many_more (length items) m (taken ++ more) ∙ ap (λ r. r >>= after_first m) (so_far more)

    one_item : (x : A) (more rest : List ℕ) → item more ≡ Ok (x, rest) → many_at item 1 more ≡ Ok (x ∷ [], rest)
    unfolding many_at
    one_item x more rest h = ap (λ r. r >>= after_one 0) h

    pub one_read : (next : List ℕ) (x : A) → ((more : List ℕ) → item (next ++ more) ≡ Ok (x, more)) → ReadAs item (taken ++ next) (items ++ x ∷ [])
    one_read next x h more =
        ap (λ (l : List ℕ). many_at item (length (items ++ x ∷ [])) l) (append_assoc taken next more)
        ∙ then_read (length (items ++ x ∷ [])) 1 (length-append items (x ∷ [])) (next ++ more)
        ∙ ap (λ r. with_front items r) (one_item x (next ++ more) more (h more))

  -- bytes ahead that are read as items are taken, and this many items of the list are left
  pub front_taken : {a b c : Known} (items : List A) (k m : ℕ) → k ≡ length items + m →
      Leads a b number_at (λ more. Ok (k, more)) → (ahead front : List ℕ) (n : ℕ) → ReadAs item (take n ahead) items →
      ahead ≡ front → IsBytes ahead → Consumes b c (take n front) → Leads a c (list_at item) (λ more. with_front items (many_at item m more))
  front_taken items k m e counted ahead front n so_far same bytes consumed =
      leads_on (list_begins item k k refl counted) (leads_ahead (λ more. with_front [] (many_at item k more)) (λ more. with_front items (many_at item m more)) ahead front n same bytes consumed
      (λ more. sym (nothing_before (many_at item k (take n ahead ++ more))) ∙ then_read (take n ahead) items so_far k m e more))
