use Rattle.std.proofs.Common.{◌≡◌, ℕ, List}
use Rattle.verdicts.specs.declared.verdict.Verdict.TheVariants.{Verified}
use Rattle.circuit_answers.specs.Answers.{IsDifferentJudged}
use Rattle.circuit_check.proofs.AnswerLemmas.{circuits_fail, different_begun, different_by, different_text, different_written}
use Rattle.circuit_check.proofs.answers.run_different.Goals as goal

pub returns-in-Err-clause-run : goal.returns-in-Err-clause-run
returns-in-Err-clause-run g c = (circuits_fail _ _ _ _ _ c.in-Err.ensures.fault).0

pub returns-in-Err-clause-unwritten : goal.returns-in-Err-clause-unwritten
returns-in-Err-clause-unwritten g c = λ unwritten. absurd ((circuits_fail _ _ _ (g.P.Read.remaining c.args.answer) _ c.in-Err.ensures.fault).1 unwritten)

pub returns-in-Ok-write_whole-clause-run : goal.returns-in-Ok-write_whole-clause-run
returns-in-Ok-write_whole-clause-run g c =
    different_by c.args.pair.pairing c.args.pair.text.now c.args.pair.other.now (g.P.Read.remaining c.args.answer) c.in-Ok.circuits.0 c.in-Ok.circuits.1 c.in-Ok-read_answer.literals
    (λ d d' lits. (text : List ℕ) × IsDifferentJudged lits d d' c.in-Ok-judge_different.compared.verdict text) c.in-Ok.ensures.first c.in-Ok.ensures.second c.in-Ok-read_answer.ensures.lists
    (c.in-Ok-judge_different.compared.text.items, c.in-Ok-judge_different.ensures.judged)

pub returns-in-Ok-write_whole-clause-line : goal.returns-in-Ok-write_whole-clause-line
returns-in-Ok-write_whole-clause-line g c =
    different_written c.args.pair.pairing c.args.pair.text.now c.args.pair.other.now (g.P.Read.remaining c.args.answer) c.in-Ok.circuits.0 c.in-Ok.circuits.1 c.in-Ok-read_answer.literals c.in-Ok-judge_different.compared.verdict
    c.in-Ok-judge_different.compared.text.items c.deref.result.now (g.W.Write.contents c.args.out.now) (g.W.Write.contents c.write_whole.new.out) c.in-Ok.ensures.first
    c.in-Ok.ensures.second c.in-Ok-read_answer.ensures.lists c.deref.ensures.value c.in-Ok-judge_different.ensures.judged c.in-Ok-write_whole.ensures.whole

pub returns-in-Ok-write_whole-clause-different : goal.returns-in-Ok-write_whole-clause-different
returns-in-Ok-write_whole-clause-different g c = λ verified.
    let is : c.in-Ok-judge_different.compared.verdict ≡ Verified = cc in
    different_text c.args.pair.pairing c.args.pair.text.now c.args.pair.other.now (g.P.Read.remaining c.args.answer) c.in-Ok-judge_different.compared.verdict (g.W.Write.contents c.args.out.now)
    (g.W.Write.contents c.write_whole.new.out) is
    (different_written c.args.pair.pairing c.args.pair.text.now c.args.pair.other.now (g.P.Read.remaining c.args.answer) c.in-Ok.circuits.0 c.in-Ok.circuits.1 c.in-Ok-read_answer.literals c.in-Ok-judge_different.compared.verdict
    c.in-Ok-judge_different.compared.text.items c.deref.result.now (g.W.Write.contents c.args.out.now) (g.W.Write.contents c.write_whole.new.out) c.in-Ok.ensures.first
    c.in-Ok.ensures.second c.in-Ok-read_answer.ensures.lists c.deref.ensures.value c.in-Ok-judge_different.ensures.judged c.in-Ok-write_whole.ensures.whole)

pub returns-clause-run : goal.returns-clause-run
returns-clause-run g c =
    different_by c.args.pair.pairing c.args.pair.text.now c.args.pair.other.now (g.P.Read.remaining c.args.answer) c.in-Ok.circuits.0 c.in-Ok.circuits.1 c.in-Ok-read_answer.literals (λ d d' lits. Unit {0}) c.in-Ok.ensures.first
    c.in-Ok.ensures.second c.in-Ok-read_answer.ensures.lists tt

pub returns-clause-unwritten : goal.returns-clause-unwritten
returns-clause-unwritten g c = λ unwritten.
    different_begun c.args.pair.pairing c.args.pair.text.now c.args.pair.other.now (g.P.Read.remaining c.args.answer) c.in-Ok.circuits.0 c.in-Ok.circuits.1 c.in-Ok-read_answer.literals c.in-Ok-judge_different.compared.verdict
    c.in-Ok-judge_different.compared.text.items c.deref.result.now (g.W.Write.contents c.args.out.now) (g.W.Write.contents c.write_whole.new.out) c.in-Ok.ensures.first
    c.in-Ok.ensures.second c.in-Ok-read_answer.ensures.lists c.deref.ensures.value c.in-Ok-judge_different.ensures.judged c.in-Err-write_whole.ensures.beginning
