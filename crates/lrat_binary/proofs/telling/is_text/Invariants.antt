use Rattle.std.proofs.Common.{◌≡◌, drop}
use Rattle.std.specs.List.{list_all}
use Rattle.drat_text.specs.Bytes.{is_text_byte}
use Rattle.lrat_binary.proofs.telling.is_text.Given as goal

-- the bytes to come say the same
abbrev pub invariant-loop-byte : goal.invariant-loop-byte
invariant-loop-byte l = list_all is_text_byte (drop l.byte-index l.bytes) ≡ list_all is_text_byte l.bytes
