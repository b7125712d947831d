-- How a text spells its hashes, and the width in force.
use Rattle.std.specs.Prelude.{ℕ, ◌+◌, ◌/◌, ◌<◌, ◌≤◌, Bool, false, nat_lt, ◌==◌, if◌then◌else◌}
use Rattle.checker_rules.specs.Step.{Step, change_hash_bits}
use Rattle.proof_bytes.specs.declared.format.Format.{Format}
use Rattle.proof_bytes.specs.declared.format.Format.TheVariants as formats

-- the width in force
abbrev pub width_of : Format → ℕ
width_of formats.Start = 64
width_of formats.Numbers = 64
width_of (formats.Bytes width) = width

-- the width is one that a text can have
abbrev pub IsFormat : Format → Type 0
IsFormat format = (0 < width_of format) × (width_of format ≤ 64)

-- the least number of bytes that have this many bits
abbrev pub bytes_of : ℕ → ℕ
bytes_of width = (width + 7) / 8

-- widths that a text can set
abbrev pub is_width : ℕ → Bool
is_width bits = if bits == 0 then false else nat_lt bits 65

-- such a width is in force from here on; another number leaves it
abbrev pub set_width : ℕ → Format → Format
set_width bits formats.Start = formats.Start
set_width bits formats.Numbers = formats.Numbers
set_width bits (formats.Bytes width) = formats.Bytes (if is_width bits then bits else width)

-- the format after a step
abbrev pub after : Step → Format → Format
after (change_hash_bits bits) format = set_width bits format
after _ format = format
