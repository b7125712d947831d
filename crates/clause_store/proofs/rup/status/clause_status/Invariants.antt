use Rattle.std.proofs.Common.{◌≡◌, length}
use Rattle.clause_store.specs.Rup.{status_of, true_lits}
use Rattle.clause_store.specs.Units.{AreKnown}
use Rattle.clause_store.proofs.rup.status.clause_status.Given as goal

abbrev pub invariant-loop-lit : goal.invariant-loop-lit
invariant-loop-lit l = (status_of (true_lits l.units) l.rest ≡ status_of (true_lits l.units) l.lits) × AreKnown l.units l.rest

abbrev pub decreases-loop-lit : goal.decreases-loop-lit
decreases-loop-lit l = length l.rest
