use Rattle.std.proofs.Common.{◌≡◌, drop}
use Rattle.circuit_text.specs.Circuits.{circuit_of}
use Rattle.circuit_names.specs.Starts.{starts_after, starts_in, starts_of}
use Rattle.circuit_names.proofs.table.Table.of.Given as goal

-- the bytes to come lead to the whole
abbrev pub invariant-loop-at : goal.invariant-loop-at
invariant-loop-at l = starts_after (starts_in l.table) l.at (drop l.at l.text) ≡ starts_of (circuit_of l.circuit) l.text
