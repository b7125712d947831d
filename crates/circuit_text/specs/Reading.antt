-- What reading a circuit returns.
--     IsRead known c      the text is of this circuit
use Rattle.std.specs.Prelude.{ℕ, List, Option, IfSome}
use Rattle.circuit_text.specs.declared.circuit.Circuit as read
use Rattle.circuit_text.specs.Circuits.{circuit_of}
use Rattle.circuit_text.specs.Written.{IsAiger}

-- the text, if it is known, is of this circuit
abbrev pub IsRead : Option (List ℕ) → read.Circuit → Type 0
IsRead known c = IfSome known (λ text. IsAiger text (circuit_of c))
