-- The low bytes of a number that eight bytes spell.
use Rattle.std.proofs.Common.{◌≡◌, ℕ, zero, suc, ◌+◌, ◌-◌, ◌*◌, ◌%◌, ◌^◌, ◌<◌, ◌≤◌, List, ◌++◌, length, get_or, take, Ok, Err, true, cond, refl, sym, ap, ◌∙◌, arith, zero-add, pow-add}
use Rattle.std.proofs.Math.Nat.{add-mul-mod_self_right, mod-eq_of_lt, mul-le-mul_left, mul_assoc, mul_comm}
use Rattle.std.specs.Prelude.{nat_lt}
use Rattle.proof_bytes.specs.declared.fault.MalformedStep.TheVariants.{OutOfRange}
use Rattle.proof_bytes.specs.Reading.{Wrong, ◌>>=◌}
use Rattle.proof_bytes.specs.Fields.{bytes_at, wide_at}
use Rattle.proof_bytes.specs.Formats.{bytes_of}
use Rattle.proof_bytes.proofs.FieldLemmas.{in_range}
use Rattle.proof_bytes.proofs.Fronts.{one_more}
use Rattle.proof_bytes.proofs.Wide.{next_256}

-- the number that this many bytes spell
abbrev low : List ℕ → ℕ → ℕ
low xs zero = 0
low xs (suc i) = low xs i + 2 ^ (8 * i) * get_or xs i 0

weight_on : (i : ℕ) → 2 ^ (8 * i) * 256 ≡ 2 ^ (8 * suc i)
weight_on i = let e : i + 1 ≡ suc i = omega arith in next_256 i (2 ^ (8 * i)) refl ∙ ap (λ k. 2 ^ (8 * k)) e

module _ (xs : List ℕ) where
  -- this many bytes are read, and others are left
  low_read : (i left n : ℕ) → n ≡ i + left → i ≤ length xs → (more : List ℕ) → bytes_at n 0 1 (take i xs ++ more) ≡ bytes_at left (low xs i) (2 ^ (8 * i)) more
  unfolding bytes_at
  low_read zero left n e le more = ap (λ k. bytes_at k 0 1 more) (e ∙ zero-add left)
  low_read (suc i) left n e le more =
      one_more (bytes_at n 0 1) (bytes_at (suc left) (low xs i) (2 ^ (8 * i))) xs i (suc i) (omega arith) (omega arith) (low_read i (suc left) n (omega arith) (omega arith)) more
      ∙ ap (λ w. bytes_at left (low xs (suc i)) w more) (weight_on i)

  module _ (bytes : (i : ℕ) → get_or xs i 0 < 256) where
    low_small : (i : ℕ) → low xs i < 2 ^ (8 * i)
    low_small zero = omega arith
    low_small (suc i) =
        let below = low_small i in
        let up = mul-le-mul_left (2 ^ (8 * i)) (bytes i) in
        let w = weight_on i in
        omega (arith, below, up, w)

    -- a byte above the low ones
    above : (i j x : ℕ) → 2 ^ (8 * (j + i)) * x ≡ x * 2 ^ (8 * j) * 2 ^ (8 * i)
    above i j x =
        let e : 8 * (j + i) ≡ 8 * j + 8 * i = omega arith in
        ap (λ k. 2 ^ k * x) e ∙ ap (λ w. w * x) (pow-add 2 (8 * j) (8 * i)) ∙ mul_comm (2 ^ (8 * j) * 2 ^ (8 * i)) x ∙ sym (mul_assoc x (2 ^ (8 * j)) (2 ^ (8 * i)))

    low-mod : (i j n : ℕ) → n ≡ j + i → low xs n % 2 ^ (8 * i) ≡ low xs i
    low-mod i zero n e = ap (λ k. low xs k % 2 ^ (8 * i)) (e ∙ zero-add i) ∙ mod-eq_of_lt (low_small i)
    low-mod i (suc j) n e =
        let s : n ≡ suc (j + i) = omega arith in
        ap (λ k. low xs k % 2 ^ (8 * i)) s
        ∙ ap (λ k. (low xs (j + i) + k) % 2 ^ (8 * i)) (above i j (get_or xs (j + i) 0))
        ∙ add-mul-mod_self_right (low xs (j + i)) (get_or xs (j + i) 0 * 2 ^ (8 * j)) (2 ^ (8 * i))
        ∙ low-mod i j (j + i) refl

    -- eight bytes that spell a number: as many of them as you like spell its low bytes
    pub low_of_eight : (n : ℕ) → 8 ≤ length xs →
        n ≡ get_or xs 0 0 + get_or xs 1 0 * 256 ^ 1 + get_or xs 2 0 * 256 ^ 2 + get_or xs 3 0 * 256 ^ 3 + get_or xs 4 0 * 256 ^ 4 +
        get_or xs 5 0 * 256 ^ 5 + get_or xs 6 0 * 256 ^ 6 + get_or xs 7 0 * 256 ^ 7
        → (count : ℕ) → count ≤ 8 → (more : List ℕ) → bytes_at count 0 1 (take count xs ++ more) ≡ Ok (n % 2 ^ (8 * count), more)
    unfolding bytes_at
    low_of_eight n long is count le more =
        let whole : n ≡ low xs 8 = omega (arith, is) in
        let part : low xs 8 % 2 ^ (8 * count) ≡ low xs count = low-mod count (8 - count) 8 (omega arith) in
        low_read count 0 count (omega arith) (omega arith) more ∙ ap (λ k. Ok (k, more)) (sym (ap (λ k. k % 2 ^ (8 * count)) whole ∙ part))

-- a number in whole bytes, below the limit of its width
pub wide_of_bytes : (width n : ℕ) (bytes more : List ℕ) → nat_lt n (2 ^ width) ≡ true → bytes_at (bytes_of width) 0 1 bytes ≡ Ok (n, more) → wide_at width bytes ≡ Ok (n, more)
unfolding wide_at
wide_of_bytes width n bytes more t e = ap (λ r. r >>= in_range (2 ^ width)) e ∙ ap (λ c. cond c (Ok (n, more)) (Err (Wrong OutOfRange))) t
