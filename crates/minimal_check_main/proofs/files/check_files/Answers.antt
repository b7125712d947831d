use Rattle.std.proofs.Common.{rules}
use Rattle.follows_check.specs.Minimal.{minimal_line, shows_minimal}
use Rattle.minimal_check_main.proofs.Meant.{by_run}
use Rattle.minimal_check_main.proofs.files.check_files.Goals as goal
use Rattle.minimal_check_main.specs.Meaning.{MeansOf}
use Rattle.verdicts.proofs.Ending.{ends_shown, same_verdict}

-- the bytes that were read are those of the file
pub returns : goal.returns
returns g c =
    let files = g.S.System.file_bytes c.args.system.now in
    let input = g.S.System.input_bytes c.args.system.now in
    let Means = MeansOf files input c.args.names.cnf.now in
    let reached = by_run files input c.args.names.cnf.now c.run_minimal-checked.result (λ text known is. c.run_minimal-checked.ensures.minimal text (search rules) is) in
    record {
      ends = rw c.ended.ensures
          (ends_shown minimal_line shows_minimal Means (Unit {0}) _ _ c.map_err.result c.show_line-outcome.result c.show_line-outcome.ensures
          (same_verdict Means _ c.run_minimal-checked.result c.map_err.result c.map_err.ensures.cases reached) (λ none. tt));
    }
