-- The positions of names: one name after the other, and what is found by them.
use Rattle.std.proofs.Common.{◌≡◌, ◌⊎◌, ◌≢◌, ℕ, ◌+◌, ◌<◌, true, false, List, [], length, Option, Some, None, inl, inr, refl, ap, sym, subst, ◌∙◌, ⊎_elim, arith}
use Rattle.std.specs.Prelude.{if◌then◌else◌, is_some, slice_index}
use Rattle.std.specs.Str.{bytes_eq}
use Rattle.std.specs.Cmp.Lexicographic.{bytes_decides, nat_list_eq_equiv}
use Rattle.std.proofs.lemmas.Bool.{cases_Bool, cases_lt, cond-false, cond-true}
use Rattle.circuit_names.specs.Names.{count_in, name_in, spot_in}
use Rattle.circuit_names.specs.Pairs.{AreNamed, ArePlaces, FailsNames}
use Rattle.circuit_names.specs.Positions.{HasNames, position_of}
use Rattle.circuit_names.specs.declared.fault.PairFault.TheVariants.{Repeated}
use Rattle.circuit_names.specs.declared.names.Names.{Names}
use Rattle.circuit_names.specs.declared.place.Kind.{Kind}
use Rattle.circuit_names.specs.declared.positions.Positions.{Positions}

-- the last number below a successor, or one below it
before_or_last : (p k : ℕ) → p < k + 1 → (p < k) ⊎ (p ≡ k)
before_or_last p k less =
    ⊎_elim (λ old. inl old) (λ last. inr (omega (arith, less, last))) (cases_lt p k)

-- one more name
module _ (names : ℕ → List ℕ) (k : ℕ) (s s' : Positions) (h : HasNames k names s) (some : names k ≢ []) (new : position_of s (names k) ≡ None)
    (put : (other : List ℕ) → position_of s' other ≡ (if bytes_eq (names k) other then Some k else position_of s other)) where
  at_new : (name : List ℕ) → bytes_eq (names k) name ≡ true → position_of s' name ≡ Some k
  at_new name t = put name ∙ cond-true (bytes_eq (names k) name) (Some k) (position_of s name) t

  at_old : (name : List ℕ) → bytes_eq (names k) name ≡ false → position_of s' name ≡ position_of s name
  at_old name f = put name ∙ cond-false (bytes_eq (names k) name) (Some k) (position_of s name) f

  before : (p : ℕ) → p < k → position_of s' (names p) ≡ Some p
  before p old =
      ⊎_elim
      (λ t. let clash : Some p ≡ None = sym (h.each p old) ∙ ap (λ name. position_of s name) (sym ((bytes_decides (names k) (names p)).0 t)) ∙ new in absurd cc)
      (λ f. at_old (names p) f ∙ h.each p old) (cases_Bool (bytes_eq (names k) (names p)))

  each : (p : ℕ) → p < k + 1 → position_of s' (names p) ≡ Some p
  each p less = ⊎_elim (λ old. before p old) (λ e. rw e (at_new (names k) (nat_list_eq_equiv.refl (names k)))) (before_or_last p k less)

  named : (p : ℕ) → p < k + 1 → names p ≢ []
  named p less = ⊎_elim (λ old. h.some p old) (λ e. subst (λ q. names q ≢ []) (sym e) some) (before_or_last p k less)

  only : (name : List ℕ) (p : ℕ) → position_of s' name ≡ Some p → (p < k + 1) × (names p ≡ name)
  only name p e =
      ⊎_elim
      (λ t. let is : Some k ≡ Some p = sym (at_new name t) ∙ e in
      let same : k ≡ p = cc in
      (omega (arith, same), ap names (sym same) ∙ (bytes_decides (names k) name).0 t))
      (λ f. let o = h.only name p (sym (at_old name f) ∙ e) in (omega (arith, o.0), o.1)) (cases_Bool (bytes_eq (names k) name))

  pub names_put : HasNames (k + 1) names s'
  names_put = record { each = each; some = named; only = only }

-- the names are different ones
pub are_named : (n : ℕ) (names : ℕ → List ℕ) (s : Positions) → HasNames n names s → AreNamed n names
are_named n names s h = record {
  each = h.some;
  apart = λ p q first second e. let same : Some p ≡ Some q = sym (h.each p first) ∙ ap (λ name. position_of s name) e ∙ h.each q second in cc;
}

-- a name that was kept stands before
pub is_repeated : (n : Names) (kind : Kind) (k : ℕ) (s : Positions) (others : ℕ → List ℕ) (x : Option ℕ) → HasNames k (name_in n kind) s →
    x ≡ position_of s (name_in n kind k) → is_some x ≡ true → k < count_in n kind →
    FailsNames n.circuit kind (count_in n kind) (name_in n kind) others (Repeated (spot_in n kind k))
is_repeated n kind k s others None h e some less = absurd cc
is_repeated n kind k s others (Some q) h e some less = (
  record { circuit_is = refl; kind_is = refl; within = less },
  (q, (h.only (name_in n kind k) q (sym e)).0, (h.only (name_in n kind k) q (sym e)).1),
)

-- ---- places

-- the first k names have these places
pub record HavePlaces (s : Positions) (names : ℕ → List ℕ) (k : ℕ) (places : List ℕ) : Type 0 where
  pub as_many : length places ≡ k
  pub each : (p : ℕ) → p < k → position_of s (names p) ≡ Some (slice_index places p)

pub are_places : (s : Positions) (names : ℕ → List ℕ) (n : ℕ) (places : List ℕ) → HavePlaces s names n places → (others : ℕ → List ℕ) → HasNames n others s
    → ArePlaces n others names places
are_places s names n places h others has = record {
  as_many = h.as_many;
  each = λ p less. has.only (names p) (slice_index places p) (h.each p less);
}

pub is_unmatched : (s : Positions) (name : List ℕ) (n : ℕ) (others : ℕ → List ℕ) → HasNames n others s → position_of s name ≡ None → (q : ℕ) → q < n → others q ≢ name
is_unmatched s name n others has none q less =
    λ e. let clash : Some q ≡ None = sym (has.each q less) ∙ ap (λ m. position_of s m) e ∙ none in absurd cc

-- where all are kept
pub all_names : (n k : ℕ) (names : ℕ → List ℕ) (s : Positions) → k ≡ n → HasNames k names s → HasNames n names s
all_names n k names s e h = subst (λ m. HasNames m names s) e h

pub all_places : (n k : ℕ) (s : Positions) (names : ℕ → List ℕ) (places : List ℕ) → k ≡ n → HavePlaces s names k places → HavePlaces s names n places
all_places n k s names places e h = subst (λ m. HavePlaces s names m places) e h
