-- Groups of seven bits in the bytes of a number, and how they are joined.
use Rattle.std.proofs.Common.{◌≡◌, ℕ, zero, suc, ◌+◌, ◌-◌, ◌*◌, ◌/◌, ◌%◌, ◌^◌, ◌<◌, ◌≤◌, List, ◌++◌, length, get_or, take, Ok, refl, ap, ◌∙◌, arith, bit_and, inl, inr}
use Rattle.std.proofs.lemmas.Nat.{and_block, and_mask, and_le_l, and_le_r}
use Rattle.std.proofs.lemmas.Bool.{cases_lt}
use Rattle.proof_bytes.specs.Ahead.{AreGroups, Joins}
use Rattle.proof_bytes.specs.Reading.{number_at, more_at}
use Rattle.proof_bytes.proofs.Fronts.{one_more, begins, goes_on, ends, tenth}
use Rattle.proof_bytes.proofs.Numbers.{next_weight}

-- the low half of each lane of two bytes, and of four
step16 : (a s m n k : ℕ) → s < 2 ^ 16 → n ≡ a * 2 ^ 16 + s → k ≡ m * 2 ^ 16 + 255 → bit_and n k ≡ bit_and a m * 2 ^ 16 + s % 256
step16 a s m n k lt e f = let b = and_block 16 a m s 255 lt (omega arith) in let l : bit_and s 255 ≡ s % 256 = and_mask s 8 in rw (e, f, b, l) refl

step32 : (a s m n k : ℕ) → s < 2 ^ 32 → n ≡ a * 2 ^ 32 + s → k ≡ m * 2 ^ 32 + 65535 → bit_and n k ≡ bit_and a m * 2 ^ 32 + s % 65536
step32 a s m n k lt e f = let b = and_block 32 a m s 65535 lt (omega arith) in let l : bit_and s 65535 ≡ s % 65536 = and_mask s 16 in rw (e, f, b, l) refl

even16 : (s0 s1 s2 s3 n : ℕ) → s0 < 2 ^ 16 → s1 < 2 ^ 16 → s2 < 2 ^ 16 → s3 < 2 ^ 16 → n ≡ s0 + 65536 * (s1 + 65536 * (s2 + 65536 * s3)) →
    bit_and n 0x00ff00ff00ff00ff ≡ s0 % 256 + 65536 * (s1 % 256 + 65536 * (s2 % 256 + 65536 * (s3 % 256)))
even16 s0 s1 s2 s3 n l0 l1 l2 l3 is =
    let e3 : bit_and s3 255 ≡ s3 % 256 = and_mask s3 8 in
    let e2 = step16 s3 s2 255 (s2 + 65536 * s3) 0x00ff00ff l2 (omega arith) refl in
    let e1 = step16 (s2 + 65536 * s3) s1 0x00ff00ff (s1 + 65536 * (s2 + 65536 * s3)) 0x00ff00ff00ff l1 (omega arith) refl in
    let e0 = step16 (s1 + 65536 * (s2 + 65536 * s3)) s0 0x00ff00ff00ff n 0x00ff00ff00ff00ff l0 (omega arith) refl in
    omega (arith, e0, e1, e2, e3)

even32 : (s0 s1 n : ℕ) → s0 < 2 ^ 32 → n ≡ s0 + 4294967296 * s1 → bit_and n 0x0000ffff0000ffff ≡ s0 % 65536 + 4294967296 * (s1 % 65536)
even32 s0 s1 n l0 is =
    let e1 : bit_and s1 65535 ≡ s1 % 65536 = and_mask s1 16 in
    let e0 = step32 s1 s0 65535 n 0x0000ffff0000ffff l0 (omega arith) refl in
    omega (arith, e0, e1)

-- what `joined_groups` computes
abbrev pub pairs : ℕ → ℕ
pairs n = (n + bit_and n 0x00ff00ff00ff00ff) / 2

abbrev pub fours : ℕ → ℕ
fours n = bit_and n 0x0000ffff0000ffff + (n - bit_and n 0x0000ffff0000ffff) / 4

abbrev pub whole : ℕ → ℕ
whole n = n % 4294967296 + n / 4294967296 * 268435456

module _ (n : ℕ) (g : AreGroups n) where
  -- eight groups as four pairs
  pairs_of : pairs n ≡ (g.c0 + 128 * g.c1) + 65536 * ((g.c2 + 128 * g.c3) + 65536 * ((g.c4 + 128 * g.c5) + 65536 * (g.c6 + 128 * g.c7)))
  pairs_of =
      let e = even16 (g.c0 + 256 * g.c1) (g.c2 + 256 * g.c3) (g.c4 + 256 * g.c5) (g.c6 + 256 * g.c7) n (omega arith) (omega arith) (omega arith) (omega arith) (omega arith) in
      omega (arith, e)

  -- four pairs as two numbers of 28 bits
  fours_of : fours (pairs n) ≡ (g.c0 + 128 * g.c1 + 16384 * (g.c2 + 128 * g.c3)) + 4294967296 * (g.c4 + 128 * g.c5 + 16384 * (g.c6 + 128 * g.c7))
  fours_of =
      let e = even32 ((g.c0 + 128 * g.c1) + 65536 * (g.c2 + 128 * g.c3)) ((g.c4 + 128 * g.c5) + 65536 * (g.c6 + 128 * g.c7)) (pairs n) (omega arith) (omega (arith, pairs_of)) in
      omega (arith, e, pairs_of)

  pub joins : whole (fours (pairs n)) ≡ g.c0 + 128 * (g.c1 + 128 * (g.c2 + 128 * (g.c3 + 128 * (g.c4 + 128 * (g.c5 + 128 * (g.c6 + 128 * g.c7))))))
  joins = omega (arith, fours_of)

  pub joins_small : whole (fours (pairs n)) < 2 ^ 56
  joins_small = omega (arith, joins)

-- ---- eight bytes with a top bit each

record Top (b m a : ℕ) : Type 0 where
  high : 128 ≤ b
  others : bit_and a m ≡ m

top_step : (a b m n : ℕ) → b < 256 → n ≡ b + 256 * a → bit_and n (128 + 256 * m) ≡ 128 + 256 * m → Top b m a
top_step a b m n lt e h =
    let f : n ≡ a * 2 ^ 8 + b = omega arith in
    let g : 128 + 256 * m ≡ m * 2 ^ 8 + 128 = omega arith in
    let s : bit_and n (128 + 256 * m) ≡ bit_and a m * 2 ^ 8 + bit_and b 128 = rw (f, g, and_block 8 a m b 128 lt (omega arith)) refl in
    let le = and_le_r b 128 in
    let below = and_le_l b 128 in
    record { high = omega (arith, s, le, below, h); others = omega (arith, s, le, h) }

-- this many top bits
abbrev tops : ℕ → ℕ
tops zero = 0
tops (suc k) = 128 + 256 * tops k

module _ (xs : List ℕ) (bytes : (i : ℕ) → get_or xs i 0 < 256) where
  -- this many bytes from a place on, the low one first
  abbrev word : ℕ → ℕ → ℕ
  word i zero = 0
  word i (suc k) = get_or xs i 0 + 256 * word (i + 1) k

  top : (k i : ℕ) → bit_and (word i k) (tops k) ≡ tops k → (j : ℕ) → i ≤ j → j < i + k → 128 ≤ get_or xs j 0
  top zero i h j le lt = omega arith
  top (suc k) i h j le lt =
      let t = top_step (word (i + 1) k) (get_or xs i 0) (tops k) (word i (suc k)) (bytes i) refl h in
      elim (cases_lt i j) [
        | inl more ↦ top k (i + 1) t.others j (omega arith) (omega arith)
        | inr here ↦ let same : i ≡ j = omega arith in rw same at t.high
      ]

  -- what the first groups denote
  abbrev low : ℕ → ℕ
  low zero = get_or xs 0 0 - 128
  low (suc i) = low i + 2 ^ (7 * i + 7) * (get_or xs (suc i) 0 - 128)

  module _ (n : ℕ)
      (is : n ≡ get_or xs 0 0 + get_or xs 1 0 * 256 ^ 1 + get_or xs 2 0 * 256 ^ 2 + get_or xs 3 0 * 256 ^ 3 + get_or xs 4 0 * 256 ^ 4 +
      get_or xs 5 0 * 256 ^ 5 + get_or xs 6 0 * 256 ^ 6 + get_or xs 7 0 * 256 ^ 7) (all : bit_and n 0x8080808080808080 ≡ 0x8080808080808080)
    where
      high : (i : ℕ) → i < 8 → 128 ≤ get_or xs i 0
      high i lt = let e : n ≡ word 0 8 = omega arith in top 8 0 (rw e at all) i (omega arith) lt

      pub same : (i : ℕ) → i < 8 → get_or xs i 0 ≡ (get_or xs i 0 - 128) + 128
      same i lt = omega (arith, high i lt)

      abbrev pub groups : AreGroups (n - 0x8080808080808080)
      groups = record {
        c0 = get_or xs 0 0 - 128;
        c1 = get_or xs 1 0 - 128;
        c2 = get_or xs 2 0 - 128;
        c3 = get_or xs 3 0 - 128;
        c4 = get_or xs 4 0 - 128;
        c5 = get_or xs 5 0 - 128;
        c6 = get_or xs 6 0 - 128;
        c7 = get_or xs 7 0 - 128;
        small0 = omega (arith, bytes 0);
        small1 = omega (arith, bytes 1);
        small2 = omega (arith, bytes 2);
        small3 = omega (arith, bytes 3);
        small4 = omega (arith, bytes 4);
        small5 = omega (arith, bytes 5);
        small6 = omega (arith, bytes 6);
        small7 = omega (arith, bytes 7);
        is = omega (
          arith,
          is,
          same 0 (omega arith),
          same 1 (omega arith),
          same 2 (omega arith),
          same 3 (omega arith),
          same 4 (omega arith),
          same 5 (omega arith),
          same 6
              (omega arith),
          same 7 (omega arith),
        );
      }

      module _ (long : 10 ≤ length xs) where
        read : (i left : ℕ) → left + i ≡ 8 → i < 8 → (more : List ℕ) → number_at (take (i + 1) xs ++ more) ≡ more_at left (low i) (2 ^ (7 * i + 7)) more
        read zero left e lt more = let l : left ≡ 8 = omega arith in rw l (one_more number_at number_at xs 0 1 refl (omega arith) (λ m. refl) more ∙ begins _ more (high 0 lt))
        read (suc i) left e lt more =
            one_more number_at (more_at (suc left) (low i) (2 ^ (7 * i + 7))) xs (suc i) (suc i + 1) refl (omega arith)
            (λ m. let s : suc i ≡ i + 1 = omega arith in rw s (read i (suc left) (omega arith) (omega arith) m)) more
            ∙ goes_on _ more left (low i) _ (suc left) refl (high (suc i) lt)
            ∙ ap (λ w. more_at left (low (suc i)) w more) (next_weight i _ refl ∙ ap (λ k. 2 ^ (7 * k + 7)) (omega arith))

        module _ (v : ℕ) (j : Joins (n - 0x8080808080808080) v) where
          value : v ≡ low 7
          value = omega (arith, j groups)

          pub nine : (get_or xs 8 0 ≡ 0 → ⊥) → get_or xs 8 0 < 128 → (more : List ℕ) → number_at (take 9 xs ++ more) ≡ Ok (v + get_or xs 8 0 * 72057594037927936, more)
          nine nz lt more =
              one_more number_at _ xs 8 9 refl (omega arith) (read 7 1 refl (omega arith)) more
              ∙ ends _ more 0 (low 7) 72057594037927936 1 refl nz lt ∙ ap (λ k. Ok (k, more)) (omega (arith, value))

          pub ten : 128 ≤ get_or xs 8 0 → get_or xs 9 0 ≡ 1 → (more : List ℕ) →
              number_at (take 10 xs ++ more) ≡ Ok (v + (get_or xs 8 0 - 128) * 72057594037927936 + 9223372036854775808, more)
          ten le one more =
              one_more number_at (more_at 0 (low 7 + 72057594037927936 * (get_or xs 8 0 - 128)) 9223372036854775808) xs 9 10 refl (omega arith)
              (λ m. one_more number_at _ xs 8 9 refl (omega arith) (read 7 1 refl (omega arith)) m
              ∙ goes_on _ m 0 (low 7) 72057594037927936 1 refl le) more
              ∙ tenth _ more (low 7 + 72057594037927936 * (get_or xs 8 0 - 128)) 9223372036854775808 0 refl one ∙ ap (λ k. Ok (k, more)) (omega (arith, value))
