-- What a walk over the listeners did so far, and of all of them.
use Rattle.std.proofs.Common.{◌≡◌, ℕ, zero, suc, ◌<◌, ◌+◌, List, [], ◌∷◌, ◌++◌, take, drop, length, slice_index_or, slice_set, refl, arith, add-one, inl, inr}
use Rattle.checker_steps.proofs.Common.{AllZip}
use Rattle.checker_rules.specs.Ran.{AllTook, OneFaulted}

-- R holds of the first i items, place by place, and the others are the same
abbrev pub Passed : {B : Type 0} → (B → B → Type 0) → ℕ → List B → List B → Type 0
Passed R zero olds news = olds ≡ news
Passed R (suc i) [] news = ⊥
Passed R (suc i) (o ∷ olds) [] = ⊥
Passed R (suc i) (o ∷ olds) (n ∷ news) = R o n × Passed R i olds news

-- the item in place i passes too
passed_suc : {B : Type 0} (R : B → B → Type 0) (i : ℕ) (olds news : List B) (d v : B) → Passed R i olds news → i < length news →
    R (slice_index_or news i d) v → Passed R (suc i) olds (slice_set news i v)
passed_suc R zero olds [] d v p lt r = absurd (omega arith)
passed_suc R zero olds (n ∷ news) d v p lt r = rw p (r, refl)
passed_suc R (suc i) (o ∷ olds) (n ∷ news) d v p lt r = (p.0, passed_suc R i olds news d v p.1 (omega arith) r)
passed_suc R (suc i) _ _ d v p lt r = absurd p

pub passed_more : {B : Type 0} (R : B → B → Type 0) (i : ℕ) (olds news : List B) (d v : B) → Passed R i olds news → i < length news →
    R (slice_index_or news i d) v → Passed R (i + 1) olds (slice_set news i v)
passed_more R i olds news d v p lt r = rw add-one (passed_suc R i olds news d v p lt r)

-- all of them passed
pub passed_all : {B : Type 0} (R : B → B → Type 0) (i : ℕ) (olds news : List B) → Passed R i olds news → i ≡ length news → AllZip R olds news
passed_all R zero olds [] p e = rw p tt
passed_all R zero olds (n ∷ news) p e = cc
passed_all R (suc i) (o ∷ olds) (n ∷ news) p e = (p.0, passed_all R i olds news p.1 (omega arith))
passed_all R (suc i) _ _ p e = absurd p

-- the item in place i answers a fault
pub passed_fault : {B E : Type 0} (took faulted : B → E → B → Type 0) (e : E) (i : ℕ) (olds news : List B) (d v : B) →
    Passed (λ o n. took o e n) i olds news → i < length news → faulted (slice_index_or news i d) e v →
    OneFaulted took faulted olds e (slice_set news i v)
passed_fault took faulted e zero olds [] d v p lt r = absurd (omega arith)
passed_fault took faulted e zero olds (n ∷ news) d v p lt r = rw p (inl (r, refl))
passed_fault took faulted e (suc i) (o ∷ olds) (n ∷ news) d v p lt r = inr (p.0, passed_fault took faulted e i olds news d v p.1 (omega arith) r)
passed_fault took faulted e (suc i) _ _ d v p lt r = absurd p

-- a slice of a whole `Vec`, put back
retaken : {A : Type 0} (xs ys : List A) (n : ℕ) → n ≡ length xs → take n (xs ++ ys) ≡ xs
retaken [] ys n e = rw e refl
retaken (x ∷ xs) ys n e = rw (e, retaken xs ys (length xs) refl) refl

-- what is said of a slice of a whole `Vec`, said of the `Vec`
of_slice : {B : Type 0} (Q : List B → List B → Type 0) (p p0 q : List B) (n : ℕ) → p ≡ p0 → length q ≡ length p → length p ≡ n → Q p q →
    Q p0 (take n (q ++ drop (length q) p0))
of_slice Q p p0 q n same long all h = let a : n ≡ length q = cc in rw (retaken q (drop (length q) p0) n a, ← same) h

module _ {B E : Type 0} (took : B → E → B → Type 0) where
  pub took_of_slice : (e : E) (p p0 q : List B) (n : ℕ) → p ≡ p0 → length q ≡ length p → length p ≡ n → AllTook took p e q →
      AllTook took p0 e (take n (q ++ drop (length q) p0))
  took_of_slice e = of_slice (λ x y. AllTook took x e y)

  pub fault_of_slice : (faulted : B → E → B → Type 0) (e : E) (p p0 q : List B) (n : ℕ) → p ≡ p0 → length q ≡ length p → length p ≡ n →
      OneFaulted took faulted p e q → OneFaulted took faulted p0 e (take n (q ++ drop (length q) p0))
  fault_of_slice faulted e = of_slice (λ x y. OneFaulted took faulted x e y)
