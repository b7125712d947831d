-- Bytes that were read whole, and are given again.
use Rattle.std.specs.Prelude.{ℕ, List, drop}
use Rattle.command.specs.declared.held.HeldBytes.{HeldBytes}

-- those that were not given yet
abbrev pub held_in : HeldBytes → List ℕ
held_in held = drop held.given held.bytes.items
