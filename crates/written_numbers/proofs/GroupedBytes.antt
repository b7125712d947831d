-- Numbers as bytes of seven bits, the low ones first.
use Rattle.std.proofs.Common.{◌≡◌, ℕ, zero, suc, ◌+◌, ◌-◌, ◌*◌, ◌/◌, ◌%◌, ◌^◌, ◌<◌, ◌≤◌, [], ◌∷◌, refl, arith, pow-add}
use Rattle.std.proofs.Math.Nat.{div-lt_iff_lt-mul}
use Rattle.std.proofs.lemmas.Bool.{lt-ltb, le-ltb}
use Rattle.written_numbers.specs.GroupedBytes.{groups}

pub group_small : (left n : ℕ) → n < 128 → groups left n ≡ n ∷ []
unfolding groups
group_small zero n lt = refl
group_small (suc left) n lt = rw (lt-ltb n 128 lt) refl

pub group_large : (k left n : ℕ) → k ≡ suc left → 128 ≤ n → groups k n ≡ (128 + n % 128) ∷ groups left (n / 128)
unfolding groups
group_large k left n e le = rw (e, le-ltb n 128 le) refl

pub next_small : (i n : ℕ) → i < 9 → n < 2 ^ (64 - 7 * i) → n / 128 < 2 ^ (64 - 7 * (i + 1))
next_small i n lt h =
    let e : 64 - 7 * i ≡ (64 - 7 * (i + 1)) + 7 = omega arith in
    let p = rw (e, pow-add) at h in
    (div-lt_iff_lt-mul {k = 128} (omega arith)).1 p
