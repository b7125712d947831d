use Rattle.std.proofs.Common.{◌≡◌, drop}
use Rattle.clause_store.specs.StateOf.{stored_units}
use Rattle.clause_store.specs.Trace.{true_unit_id}
use Rattle.clause_store.proofs.clauses.units.Units.true_unit_id.Given as goal

abbrev pub invariant-loop-lit : goal.invariant-loop-lit
invariant-loop-lit l = true_unit_id (stored_units l.self) (drop l.lit-index l.lits) ≡ true_unit_id (stored_units l.self) l.lits
