use Rattle.std.proofs.Common.{rules}
use Rattle.join_check.specs.Verdicts.{shown_line, shows_unsat}
use Rattle.join_check_main.proofs.Meant.{by_receipts}
use Rattle.join_check_main.proofs.files.check_formula.Goals as goal
use Rattle.join_check_main.specs.Meaning.{MeansByReceipts}
use Rattle.verdicts.proofs.Ending.{ends_shown, same_verdict}

-- the bytes that were read are those of the files
pub returns : goal.returns
returns g c =
    let files = g.S.System.file_bytes c.args.system.now in
    let input = g.S.System.input_bytes c.args.system.now in
    let names = c.args.names in
    let Means = MeansByReceipts files input names.cnf.now names.other.now in
    let reached = by_receipts files input names.cnf.now names.other.now c.run_pieces.result
    (λ text said count of_cnf of_receipts is. c.run_pieces.ensures.refutes text said (search rules) (search rules) count is) in
    record {
      ends = rw c.ended.ensures
          (ends_shown shown_line shows_unsat Means (Unit {0}) _ _ c.map_err-checked.result c.show_line-outcome.result c.show_line-outcome.ensures
          (same_verdict Means _ c.run_pieces.result c.map_err-checked.result c.map_err-checked.ensures.cases reached) (λ none. tt));
    }
