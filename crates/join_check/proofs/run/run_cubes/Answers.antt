use Rattle.join_check.proofs.Running.{cubes_shown, refuted_by_parts}
use Rattle.join_check.proofs.run.run_cubes.Goals as goal

pub returns-in-Ok-judge_cubes-clause-run : goal.returns-in-Ok-judge_cubes-clause-run
returns-in-Ok-judge_cubes-clause-run g c = cubes_shown _ _ _ _ _ c.in-Ok.receipts.items _ c.in-Ok.ensures c.in-Ok-read_formula.ensures.whole c.in-Ok-read_formula-2.ensures.whole (rw c.deref.ensures.value at c.in-Ok-judge_cubes.ensures)

pub returns-in-Ok-judge_cubes-clause-refutes : goal.returns-in-Ok-judge_cubes-clause-refutes
returns-in-Ok-judge_cubes-clause-refutes g c = refuted_by_parts c.parts_are_refuted.ensures (g.F.Read.remaining c.args.cnf) (g.C.Read.remaining c.args.cubes) (g.P.Read.remaining c.args.receipts) _ (returns-in-Ok-judge_cubes-clause-run g c)
