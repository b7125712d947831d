use Rattle.std.proofs.Common.{arith}
use Rattle.clause_store.proofs.rup.walk.visit_named.Goals as goal

pub visit-requires-clause-within : goal.visit-requires-clause-within
visit-requires-clause-within g c =
    (rw (← c.in-Some-One.ensures.value, c.in-Some-One.field-0-is) at (c.requires.within c.args.hash)) 0 c.in-Some-One.clause (omega arith)

pub visit-requires-clause-known : goal.visit-requires-clause-known
visit-requires-clause-known g c =
    (rw (← c.in-Some-One.ensures.value, c.in-Some-One.field-0-is) at (c.requires.known c.args.hash)) 0 c.in-Some-One.clause (omega arith)
