-- Sums of numbers of 64 bits that stay at the largest one.
use Rattle.std.proofs.Common.{◌≡◌, ℕ, ◌+◌, arith}
use Rattle.std.specs.Prelude.{min}

-- two more
pub two_more : (a b c m : ℕ) → min (min (min a m + b) m + c) m ≡ min (a + b + c) m
two_more a b c m = omega arith

-- four more
pub four_more : (a b c d e m : ℕ) → min (min (min (min (a + b) m + c) m + d) m + e) m ≡ min (a + b + c + d + e) m
four_more a b c d e m = omega arith
