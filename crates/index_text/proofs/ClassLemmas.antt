-- The bytes in front that pass a test, by the place of the first that does not.
use Rattle.std.proofs.Common.{◌≡◌, ℕ, zero, suc, ◌<◌, ◌≤◌, Bool, true, false, List, [], ◌∷◌, length, get_or, take, drop, refl, ap, arith}
use Rattle.index_text.specs.Classes.{behind, leading}

-- the first n bytes pass, and no further one
pub record IsFront (test : ℕ → Bool) (bytes : List ℕ) (n : ℕ) : Type 0 where
  pub within : n ≤ length bytes
  pub pass : (k : ℕ) → k < n → test (get_or bytes k 0) ≡ true
  pub ends : n < length bytes → test (get_or bytes n 0) ≡ false

front_rest : (test : ℕ → Bool) (b : ℕ) (bytes : List ℕ) (n : ℕ) → IsFront test (b ∷ bytes) (suc n) → IsFront test bytes n
front_rest test b bytes n p = record {
  within = omega (arith, p.within);
  pass = λ k lt. p.pass (suc k) (omega (arith, lt));
  ends = λ lt. p.ends (omega (arith, lt));
}

pub leading-front : (test : ℕ → Bool) (bytes : List ℕ) (n : ℕ) → IsFront test bytes n → leading test bytes ≡ take n bytes
leading-front test [] zero p = refl
leading-front test [] (suc n) p = absurd (omega (arith, p.within))
leading-front test (b ∷ bytes) zero p = rw (p.ends (omega arith)) refl
leading-front test (b ∷ bytes) (suc n) p = rw (p.pass 0 (omega arith)) (ap (λ (bs : List ℕ). b ∷ bs) (leading-front test bytes n (front_rest test b bytes n p)))

pub behind-front : (test : ℕ → Bool) (bytes : List ℕ) (n : ℕ) → IsFront test bytes n → behind test bytes ≡ drop n bytes
behind-front test [] zero p = refl
behind-front test [] (suc n) p = absurd (omega (arith, p.within))
behind-front test (b ∷ bytes) zero p = rw (p.ends (omega arith)) refl
behind-front test (b ∷ bytes) (suc n) p = rw (p.pass 0 (omega arith)) (behind-front test bytes n (front_rest test b bytes n p))
