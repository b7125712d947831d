use Rattle.std.proofs.Common.{rules}
use Rattle.follows_check_main.proofs.Ending.{ends_shown}
use Rattle.follows_check_main.proofs.Meant.{by_answer}
use Rattle.follows_check_main.proofs.files.check_answer.Goals as goal
use Rattle.follows_check_main.specs.Meaning.{MeansOf}
use Rattle.verdicts.proofs.Ending.{same_verdict}

-- the bytes that were read are those of the files
pub returns : goal.returns
returns g c =
    let files = g.S.System.file_bytes c.args.system.now in
    let input = g.S.System.input_bytes c.args.system.now in
    let names = c.args.names in
    let Means = MeansOf files input names.inputs.cnf.now names.claims.now in
    let reached = by_answer files input names.inputs.cnf.now names.claims.now _ _ _ c.run_answer-checked.result c.run_answer-checked.ensures.run (λ text said claim line is are fails. c.run_answer-checked.ensures.fails text said claim line (search rules) (search rules) fails) in
    record {
      ends = rw c.end.ensures
          (ends_shown Means (Unit {0}) _ _ c.map_err.result c.show_line-outcome.result c.show_line-outcome.ensures
          (same_verdict Means _ c.run_answer-checked.result c.map_err.result c.map_err.ensures.cases reached) (λ none. tt));
    }
