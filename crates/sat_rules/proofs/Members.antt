-- What is in a list, by its test.
use Rattle.std.proofs.Common.{◌≡◌, ℕ, Bool, true, eqb, List, [], ◌∷◌, filter, refl, eq-eqb, inl, inr, arith}
use Rattle.std.specs.List.{list_any, list_all}
use Rattle.std.proofs.lemmas.Bool.{eqb-true, and_from, or_cases, or_left, or_right, false≢true}
use Rattle.sat_rules.specs.Clauses.{has}

-- an element of a filtered list is in the list and passes the test
pub kept_test : (p : ℕ → Bool) (c : List ℕ) (l : ℕ) → has l (filter p c) ≡ true → p l ≡ true
kept_test p [] l h = absurd (false≢true h)
kept_test p (m ∷ ms) l h = grind (arith, eqb-true l m, kept_test p ms l)

pub kept_in : (p : ℕ → Bool) (c : List ℕ) (l : ℕ) → has l (filter p c) ≡ true → has l c ≡ true
kept_in p [] l h = absurd (false≢true h)
kept_in p (m ∷ ms) l h = grind (arith, kept_in p ms l)

pub kept_from : (p : ℕ → Bool) (c : List ℕ) (l : ℕ) → has l c ≡ true → p l ≡ true → has l (filter p c) ≡ true
kept_from p [] l h t = h
kept_from p (m ∷ ms) l h t = grind (arith, eqb-true l m, kept_from p ms l)

pub all_at : (p : ℕ → Bool) (c : List ℕ) (l : ℕ) → list_all p c ≡ true → has l c ≡ true → p l ≡ true
all_at p [] l h t = absurd (false≢true t)
all_at p (m ∷ ms) l h t = grind (arith, eqb-true l m, all_at p ms l)

pub all_from : (p : ℕ → Bool) (c : List ℕ) → ((l : ℕ) → has l c ≡ true → p l ≡ true) → list_all p c ≡ true
all_from p [] h = refl
all_from p (m ∷ ms) h = and_from (p m) (list_all p ms) (h m (or_left (eqb m m) (has m ms) (eq-eqb m m refl))) (all_from p ms (λ l t. h l (or_right (eqb l m) (has l ms) t)))

pub any_at : (p : ℕ → Bool) (c : List ℕ) → list_any p c ≡ true → (l : ℕ) × (has l c ≡ true) × (p l ≡ true)
any_at p [] h = absurd (false≢true h)
any_at p (m ∷ ms) h = elim (or_cases (p m) (list_any p ms) h) [
  | inl now ↦ (m, or_left (eqb m m) (has m ms) (eq-eqb m m refl), now)
  | inr later ↦ let r = any_at p ms later in (r.0, or_right (eqb r.0 m) (has r.0 ms) r.1, r.2)
]

pub any_from : (p : ℕ → Bool) (c : List ℕ) (l : ℕ) → has l c ≡ true → p l ≡ true → list_any p c ≡ true
any_from p [] l h t = h
any_from p (m ∷ ms) l h t = grind (arith, eqb-true l m, any_from p ms l)

pub has_first : (l : ℕ) (c : List ℕ) → has l (l ∷ c) ≡ true
has_first l c = grind arith
