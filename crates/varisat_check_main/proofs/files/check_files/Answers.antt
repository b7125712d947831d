use Rattle.command.specs.Held.{held_in}
use Rattle.command.specs.Inputs.{bytes_named}
use Rattle.std.proofs.Common.{refl}
use Rattle.varisat_check.specs.Verdicts.{shown_line, shows_unsat}
use Rattle.varisat_check_main.proofs.Meaning.{held_is, means_held}
use Rattle.varisat_check_main.proofs.files.check_files.Goals as goal
use Rattle.varisat_check_main.specs.Meaning.{MeansOf}
use Rattle.verdicts.proofs.Ending.{ends_shown, same_verdict}

-- the formula is that of the call
pub returns : goal.returns
returns g c =
    let named = bytes_named (g.S.System.file_bytes c.args.system.now) (g.S.System.input_bytes c.args.system.now) c.args.names.cnf.now in
    record {
      ends = rw c.report.ensures
          (ends_shown shown_line shows_unsat (MeansOf named) (Unit {0}) _ _ c.map_err.result c.show_line-outcome.result c.show_line-outcome.ensures
          (same_verdict (MeansOf named) _ c.run_check-checked.result c.map_err.result c.map_err.ensures.cases
          (means_held named (held_in c.in_ok-cnf.cnf) (λ text. held_is named (held_in c.in_ok-cnf.cnf) text c.in_ok-cnf.ensures.formula) c.run_check-checked.result (c.run_check-checked.ensures.refutes _ refl)))
          (λ none. tt));
    }
