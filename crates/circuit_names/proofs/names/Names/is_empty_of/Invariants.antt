use Rattle.std.proofs.Common.{◌≡◌, ℕ, ◌<◌, []}
use Rattle.circuit_names.specs.Names.{name_in}
use Rattle.circuit_names.proofs.names.Names.is_empty_of.Given as goal

-- none before has a name
abbrev pub invariant-loop-position : goal.invariant-loop-position
invariant-loop-position l = (p : ℕ) → p < l.position → name_in l.self l.kind p ≡ []
