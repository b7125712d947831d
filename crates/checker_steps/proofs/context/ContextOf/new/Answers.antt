use Rattle.checker_steps.proofs.NewLemmas.{kept-new, state_of-new}
use Rattle.checker_steps.proofs.context.ContextOf.new.Goals as goal

pub returns-clause-state : goal.returns-clause-state
returns-clause-state g c = let h = c.new-2.ensures in rw c.new-8.ensures (state_of-new c.new.result c.new-2.result c.new-3.result c.new.ensures h.bits h.names h.pending c.new-3.ensures)

pub returns-clause-kept : goal.returns-clause-kept
returns-clause-kept g c = let h = c.new-2.ensures in rw c.new-8.ensures (kept-new c.new.result c.new-2.result c.new-3.result c.new.ensures h.bits h.names h.pending c.new-3.ensures)
