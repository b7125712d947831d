use Rattle.std.proofs.Common.{rules}
use Rattle.join_check.specs.Verdicts.{shown_line, shows_unsat}
use Rattle.join_check_main.proofs.Meant.{by_parts}
use Rattle.join_check_main.proofs.files.check_parts.Goals as goal
use Rattle.join_check_main.specs.Meaning.{MeansByParts}
use Rattle.verdicts.proofs.Ending.{ends_shown, same_verdict}

-- the bytes that were read are those of the files
pub returns : goal.returns
returns g c =
    let files = g.S.System.file_bytes c.args.system.now in
    let input = g.S.System.input_bytes c.args.system.now in
    let names = c.args.names in
    let Means = MeansByParts files input names.cnf.now names.other.now c.args.cubes_name.now in
    let reached = by_parts files input names.cnf.now names.other.now c.args.cubes_name.now c.run_cubes.result
    (λ text split said count of_cnf of_cubes of_receipts is. c.run_cubes.ensures.refutes text split said (search rules) (search rules) (search rules) count is) in
    record {
      ends = rw c.ended.ensures
          (ends_shown shown_line shows_unsat Means (Unit {0}) _ _ c.map_err-checked.result c.show_line-outcome.result c.show_line-outcome.ensures
          (same_verdict Means _ c.run_cubes.result c.map_err-checked.result c.map_err-checked.ensures.cases reached) (λ none. tt));
    }
