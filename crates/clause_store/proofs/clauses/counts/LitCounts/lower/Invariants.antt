use Rattle.std.proofs.Common.{◌≡◌, length, take}
use Rattle.clause_store.specs.Counts.{HoldOneMore}
use Rattle.clause_store.proofs.clauses.counts.LitCounts.lower.Given as goal

abbrev pub invariant-loop-lit : goal.invariant-loop-lit
invariant-loop-lit l = record { held : HoldOneMore (take l.lit-index l.lits) l.self l.initial.self; known : length l.self ≡ length l.initial.self }
