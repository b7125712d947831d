use Rattle.clause_table.proofs.PackLemmas.{Packing}
use Rattle.clause_table.proofs.near.pack.Given as goal

-- the clauses of the ids so far are at the start of the buffer, and the others where they were
abbrev pub invariant-loop-id : goal.invariant-loop-id
invariant-loop-id l = Packing l.fn.lits.items l.fn.places.items l.lits.items l.places.items l.id l.end
