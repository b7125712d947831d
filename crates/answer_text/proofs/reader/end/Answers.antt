use Rattle.sat_formula.proofs.Exits.{exits}
use Rattle.answer_text.specs.automaton.Taking.{Ends}
use Rattle.answer_text.proofs.ReadingLemmas.{ends_off}
use Rattle.answer_text.proofs.reader.end.Goals as goal

pub returns-in_err-last : goal.returns-in_err-last
returns-in_err-last c = λ lits h. exits (Ends _) _ _ c.from_residual.ensures.1 (ends_off c.args.spot.line _ c.take.new.literals _ (c.in_err-last.ensures lits h))

pub returns-then-not-last : goal.returns-then-not-last
returns-then-not-last c = λ lits h. let w = c.in_ok-last.ensures lits h in rw (c.wrong.ensures, w.1, c.if-not-last.true)

pub returns-then-not-last-2 : goal.returns-then-not-last-2
returns-then-not-last-2 c = λ lits h. let w = c.in_ok-last.ensures lits h in rw (c.wrong-then-not-last-2.ensures, w.1, c.if-not-last.false, c.if-last.true, c.if-not-last-2.true)
