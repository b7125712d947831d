-- Widths of clause hashes.
use Rattle.std.specs.Prelude.{ℕ}
use Rattle.lrat_to_proof.specs.declared.width.HashWidth.{HashWidth}

-- how many bits
abbrev pub bits_of : HashWidth → ℕ
bits_of width = width.bits
