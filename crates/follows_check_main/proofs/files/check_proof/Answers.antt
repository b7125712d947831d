use Rattle.std.proofs.Common.{rules}
use Rattle.follows_check_main.proofs.Ending.{ends_shown}
use Rattle.follows_check_main.proofs.Meant.{by_proof}
use Rattle.follows_check_main.proofs.files.check_proof.Goals as goal
use Rattle.follows_check_main.specs.Meaning.{MeansOf}
use Rattle.verdicts.proofs.Ending.{same_verdict}

-- the bytes that were read are those of the files
pub returns : goal.returns
returns g c =
    let files = g.S.System.file_bytes c.args.system.now in
    let input = g.S.System.input_bytes c.args.system.now in
    let names = c.args.names in
    let Means = MeansOf files input names.inputs.cnf.now names.claims.now in
    let reached = by_proof files input names.inputs.cnf.now names.claims.now _ _ c.run_proof-checked.result c.run_proof-checked.ensures.run (λ text said is are follows. c.run_proof-checked.ensures.follows text said (search rules) (search rules) follows) in
    record {
      ends = rw c.end.ensures
          (ends_shown Means (Unit {0}) _ _ c.map_err.result c.show_line-outcome.result c.show_line-outcome.ensures
          (same_verdict Means _ c.run_proof-checked.result c.map_err.result c.map_err.ensures.cases reached) (λ none. tt));
    }
