use Rattle.std.proofs.Common.{◌≡◌, ℕ, List}
use Rattle.verdicts.specs.declared.verdict.Verdict.TheVariants.{Verified}
use Rattle.circuit_answers.specs.Answers.{IsPossibleJudged}
use Rattle.circuit_check.proofs.AnswerLemmas.{gates_fail, possible_begun, possible_by, possible_text, possible_written}
use Rattle.circuit_check.proofs.answers.run_possible.Goals as goal

pub returns-in-Err-clause-run : goal.returns-in-Err-clause-run
returns-in-Err-clause-run g c = (gates_fail _ _ _ c.in-Err.ensures.fault).0

pub returns-in-Err-clause-unwritten : goal.returns-in-Err-clause-unwritten
returns-in-Err-clause-unwritten g c = λ unwritten. absurd ((gates_fail _ (g.P.Read.remaining c.args.answer) _ c.in-Err.ensures.fault).1 unwritten)

pub returns-in-Ok-write_whole-clause-run : goal.returns-in-Ok-write_whole-clause-run
returns-in-Ok-write_whole-clause-run g c =
    possible_by (g.A.Read.remaining c.args.text) (g.P.Read.remaining c.args.answer) c.in-Ok.circuit c.in-Ok-read_answer.literals
    (λ d lits. (text : List ℕ) × IsPossibleJudged lits d c.in-Ok-judge_possible.judged.verdict text) c.in-Ok.ensures.gates c.in-Ok-read_answer.ensures.lists
    (c.in-Ok-judge_possible.judged.text.items, c.in-Ok-judge_possible.ensures.judged)

pub returns-in-Ok-write_whole-clause-line : goal.returns-in-Ok-write_whole-clause-line
returns-in-Ok-write_whole-clause-line g c =
    possible_written (g.A.Read.remaining c.args.text) (g.P.Read.remaining c.args.answer) c.in-Ok.circuit c.in-Ok-read_answer.literals c.in-Ok-judge_possible.judged.verdict
    c.in-Ok-judge_possible.judged.text.items c.deref.result.now (g.W.Write.contents c.args.out.now) (g.W.Write.contents c.write_whole.new.out) c.in-Ok.ensures.gates
    c.in-Ok-read_answer.ensures.lists c.deref.ensures.value c.in-Ok-judge_possible.ensures.judged c.in-Ok-write_whole.ensures.whole

pub returns-in-Ok-write_whole-clause-possible : goal.returns-in-Ok-write_whole-clause-possible
returns-in-Ok-write_whole-clause-possible g c = λ said of_text verified.
    let is : c.in-Ok-judge_possible.judged.verdict ≡ Verified = cc in
    possible_text (g.A.Read.remaining c.args.text) (g.P.Read.remaining c.args.answer) said c.in-Ok-judge_possible.judged.verdict (g.W.Write.contents c.args.out.now)
    (g.W.Write.contents c.write_whole.new.out) of_text is
    (possible_written (g.A.Read.remaining c.args.text) (g.P.Read.remaining c.args.answer) c.in-Ok.circuit c.in-Ok-read_answer.literals c.in-Ok-judge_possible.judged.verdict
    c.in-Ok-judge_possible.judged.text.items c.deref.result.now (g.W.Write.contents c.args.out.now) (g.W.Write.contents c.write_whole.new.out) c.in-Ok.ensures.gates
    c.in-Ok-read_answer.ensures.lists c.deref.ensures.value c.in-Ok-judge_possible.ensures.judged c.in-Ok-write_whole.ensures.whole)

pub returns-clause-run : goal.returns-clause-run
returns-clause-run g c =
    possible_by (g.A.Read.remaining c.args.text) (g.P.Read.remaining c.args.answer) c.in-Ok.circuit c.in-Ok-read_answer.literals (λ d lits. Unit {0}) c.in-Ok.ensures.gates
    c.in-Ok-read_answer.ensures.lists tt

pub returns-clause-unwritten : goal.returns-clause-unwritten
returns-clause-unwritten g c = λ unwritten.
    possible_begun (g.A.Read.remaining c.args.text) (g.P.Read.remaining c.args.answer) c.in-Ok.circuit c.in-Ok-read_answer.literals c.in-Ok-judge_possible.judged.verdict
    c.in-Ok-judge_possible.judged.text.items c.deref.result.now (g.W.Write.contents c.args.out.now) (g.W.Write.contents c.write_whole.new.out) c.in-Ok.ensures.gates
    c.in-Ok-read_answer.ensures.lists c.deref.ensures.value c.in-Ok-judge_possible.ensures.judged c.in-Err-write_whole.ensures.beginning
