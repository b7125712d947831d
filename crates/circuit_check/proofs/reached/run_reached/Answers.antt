use Rattle.std.proofs.Common.{◌≡◌}
use Rattle.circuit_clauses.specs.Causes.{IsCause}
use Rattle.circuit_answers.specs.Causes.{reach_cause}
use Rattle.circuit_answers.specs.Reached.{IsReachJudged}
use Rattle.circuit_answers.specs.declared.reach.Reach.{Reach}
use Rattle.circuit_answers.specs.declared.reach.Reach.TheVariants.{At}
use Rattle.circuit_check.specs.Reached.{BeginsReach}
use Rattle.circuit_check.proofs.ReachLemmas.{begins_by, reach_by, reached_text, stimulus_fails}
use Rattle.circuit_check.proofs.reached.run_reached.Goals as goal

pub returns-in-Err-read_stimulus-clause-run : goal.returns-in-Err-read_stimulus-clause-run
returns-in-Err-read_stimulus-clause-run g c =
    stimulus_fails (g.A.Read.remaining c.args.machine) (g.P.Read.remaining c.args.stimulus) c.in-Ok.circuit c.shape_of.result c.in-Ok.ensures.reads c.shape_of.ensures
    c.in-Err-read_stimulus.fault c.in-Err-read_stimulus.ensures.fault

pub returns-in-Err-judge_reached-clause-run : goal.returns-in-Err-judge_reached-clause-run
returns-in-Err-judge_reached-clause-run g c =
    reach_by (g.A.Read.remaining c.args.machine) (g.P.Read.remaining c.args.stimulus) c.in-Ok.circuit c.shape_of.result c.in-Ok.ensures.reads c.shape_of.ensures
    c.in-Ok-read_stimulus.values c.in-Ok-read_stimulus.ensures.reads (λ d s. IsCause (reach_cause d) c.in-Err-judge_reached.fault) c.in-Err-judge_reached.ensures.fault

pub returns-in-Ok-write_whole-clause-run : goal.returns-in-Ok-write_whole-clause-run
returns-in-Ok-write_whole-clause-run g c =
    reach_by (g.A.Read.remaining c.args.machine) (g.P.Read.remaining c.args.stimulus) c.in-Ok.circuit c.shape_of.result c.in-Ok.ensures.reads c.shape_of.ensures
    c.in-Ok-read_stimulus.values c.in-Ok-read_stimulus.ensures.reads (λ d s. IsReachJudged d s c.in-Ok-judge_reached.reach) c.in-Ok-judge_reached.ensures.judged

pub returns-in-Ok-write_whole-clause-reached : goal.returns-in-Ok-write_whole-clause-reached
returns-in-Ok-write_whole-clause-reached g c = λ said step of_text is.
    let at : c.in-Ok-judge_reached.reach ≡ At step = cc in
    reached_text (g.A.Read.remaining c.args.machine) said c.in-Ok.circuit c.in-Ok-read_stimulus.values c.in-Ok-judge_reached.reach step of_text c.in-Ok.ensures.reads
    c.in-Ok-judge_reached.ensures.judged at

pub returns-clause-run : goal.returns-clause-run
returns-clause-run g c =
    reach_by (g.A.Read.remaining c.args.machine) (g.P.Read.remaining c.args.stimulus) c.in-Ok.circuit c.shape_of.result c.in-Ok.ensures.reads c.shape_of.ensures
    c.in-Ok-read_stimulus.values c.in-Ok-read_stimulus.ensures.reads (λ d s. (reach : Reach) × IsReachJudged d s reach)
    (c.in-Ok-judge_reached.reach, c.in-Ok-judge_reached.ensures.judged)

pub returns-clause-unwritten : goal.returns-clause-unwritten
returns-clause-unwritten g c = λ unwritten.
    reach_by (g.A.Read.remaining c.args.machine) (g.P.Read.remaining c.args.stimulus) c.in-Ok.circuit c.shape_of.result c.in-Ok.ensures.reads c.shape_of.ensures
    c.in-Ok-read_stimulus.values c.in-Ok-read_stimulus.ensures.reads (BeginsReach (g.W.Write.contents c.args.out.now) (g.W.Write.contents c.write_whole.new.out))
    (begins_by (g.W.Write.contents c.args.out.now) (g.W.Write.contents c.write_whole.new.out) c.in-Ok.circuit c.in-Ok-read_stimulus.values c.in-Ok-judge_reached.reach
    c.line.result.now c.in-Ok-judge_reached.ensures.judged c.line.ensures c.in-Err-write_whole.ensures.beginning)
