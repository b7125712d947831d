-- A number as bytes of seven bits, the low ones first.
--     groups left n      in at most this many bytes, and one
--     number_bytes n      a number below 2^64
use Rattle.std.specs.Prelude.{ℕ, zero, suc, ◌+◌, ◌/◌, ◌%◌, nat_lt, if◌then◌else◌, List, [], ◌∷◌}

-- with 128 added to each byte but the last
unfoldable pub groups : ℕ → ℕ → List ℕ
groups zero n = n ∷ []
groups (suc left) n = if nat_lt n 128 then n ∷ [] else (128 + n % 128) ∷ groups left (n / 128)

-- ten bytes at most
unfoldable pub number_bytes : ℕ → List ℕ
number_bytes n = groups 9 n
