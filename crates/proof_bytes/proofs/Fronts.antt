-- What is read of the bytes ahead.
use Rattle.std.proofs.Common.{◌≡◌, ℕ, zero, suc, ◌+◌, ◌-◌, ◌*◌, ◌<◌, ◌≤◌, List, [], ◌∷◌, ◌++◌, length, get_or, take, Ok, Err, refl, ap, ◌∙◌, arith, append_assoc}
use Rattle.std.proofs.lemmas.List.{take_more}
use Rattle.std.proofs.lemmas.Bool.{lt-ltb, le-ltb, ne_eqb}
use Rattle.std.specs.Io.KnownBytes.{Consumes}
use Rattle.proof_bytes.specs.declared.fault.MalformedStep.TheVariants.{BadNumber}
use Rattle.proof_bytes.specs.Reading.{Short, Wrong, number_at, more_at}
use Rattle.proof_bytes.specs.Taking.{Leads, IsBytes}
use Rattle.proof_bytes.proofs.Leading.{Known}

pub bytes_front : (n : ℕ) (xs : List ℕ) → IsBytes xs → IsBytes (take n xs)
bytes_front zero xs p i = omega arith
bytes_front (suc n) [] p i = p i
bytes_front (suc n) (x ∷ xs) p zero = p 0
bytes_front (suc n) (x ∷ xs) p (suc i) = bytes_front n xs (λ j. p (suc j)) i

-- the first this many of the bytes ahead are taken, and f reads them
pub leads_ahead : {A : Type 0} {a b : Known} (f g : List ℕ → A) (ahead front : List ℕ) (n : ℕ) → ahead ≡ front → IsBytes ahead →
    Consumes a b (take n front) → ((more : List ℕ) → f (take n ahead ++ more) ≡ g more) → Leads a b f g
leads_ahead f g ahead front n e p c s = record { taken = take n ahead; bytes = bytes_front n ahead p; consumed = rw e c; same = s }

-- one byte more
pub one_more : {A : Type 0} (f g : List ℕ → A) (xs : List ℕ) (i n : ℕ) → n ≡ i + 1 → i < length xs →
    ((more : List ℕ) → f (take i xs ++ more) ≡ g more) → (more : List ℕ) → f (take n xs ++ more) ≡ g (get_or xs i 0 ∷ more)
one_more f g xs i n e lt h more = ap f (ap (λ (l : List ℕ). l ++ more) (ap (λ k. take k xs) e ∙ take_more xs i 0 lt) ∙ append_assoc (take i xs) (get_or xs i 0 ∷ []) more) ∙ h (get_or xs i 0 ∷ more)

-- no byte
pub more_short : (n v w : ℕ) → more_at n v w [] ≡ Err Short
unfolding more_at
more_short zero v w = refl
more_short (suc n) v w = refl

module _ (x : ℕ) (more : List ℕ) where
  pub alone : x < 128 → number_at (x ∷ more) ≡ Ok (x, more)
  unfolding number_at
  alone lt = rw (lt-ltb x 128 lt) refl

  pub begins : 128 ≤ x → number_at (x ∷ more) ≡ more_at 8 (x - 128) 128 more
  unfolding number_at
  begins le = rw (le-ltb x 128 le) refl

  module _ (left v w n : ℕ) (is : n ≡ suc left) where
    pub zero_group : x ≡ 0 → more_at n v w (x ∷ more) ≡ Err (Wrong BadNumber)
    unfolding more_at
    zero_group z = rw (is, z) refl

    pub ends : (x ≡ 0 → ⊥) → x < 128 → more_at n v w (x ∷ more) ≡ Ok (v + w * x, more)
    unfolding more_at
    ends nz lt = rw (is, ne_eqb x 0 nz, lt-ltb x 128 lt) refl

    pub goes_on : 128 ≤ x → more_at n v w (x ∷ more) ≡ more_at left (v + w * (x - 128)) (w * 128) more
    unfolding more_at
    goes_on le = rw (is, ne_eqb x 0 (λ z. omega arith), le-ltb x 128 le) refl

  module _ (v w n : ℕ) (is : n ≡ 0) where
    pub tenth : x ≡ 1 → more_at n v w (x ∷ more) ≡ Ok (v + w, more)
    unfolding more_at
    tenth e = rw (is, e) refl

    pub no_tenth : (x ≡ 1 → ⊥) → more_at n v w (x ∷ more) ≡ Err (Wrong BadNumber)
    unfolding more_at
    no_tenth n1 = rw (is, ne_eqb x 1 n1) refl
