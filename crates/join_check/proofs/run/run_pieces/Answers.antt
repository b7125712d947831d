use Rattle.join_check.proofs.Running.{refuted_by_receipts, text_shown}
use Rattle.join_check.proofs.run.run_pieces.Goals as goal

pub returns-in-Ok-judge_text-clause-run : goal.returns-in-Ok-judge_text-clause-run
returns-in-Ok-judge_text-clause-run g c = text_shown _ _ _ _ c.in-Ok.receipts.items _ c.in-Ok.ensures c.in-Ok-read_digested.ensures.bytes c.in-Ok-read_digested.ensures.digest (rw c.deref.ensures.value at c.in-Ok-judge_text.ensures)

pub returns-in-Ok-judge_text-clause-refutes : goal.returns-in-Ok-judge_text-clause-refutes
returns-in-Ok-judge_text-clause-refutes g c = refuted_by_receipts c.shown_is_refuted.ensures (g.F.Read.remaining c.args.cnf) (g.P.Read.remaining c.args.receipts) _ (returns-in-Ok-judge_text-clause-run g c)
