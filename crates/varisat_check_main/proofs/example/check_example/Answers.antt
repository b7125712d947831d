use Rattle.varisat_check.specs.Verdicts.{shown_line, shows_unsat}
use Rattle.varisat_check_main.proofs.example.check_example.Goals as goal
use Rattle.verdicts.proofs.Ending.{each_verdict, ends_shown}

-- the verdict says nothing of files
pub returns : goal.returns
returns g c = record {
  ends = rw c.ended.ensures
      (ends_shown shown_line shows_unsat (λ v. Unit {0}) (Unit {0}) _ _ c.map_err.result c.show_line-outcome.result c.show_line-outcome.ensures
      (each_verdict (λ v. Unit {0}) (λ v. tt) c.map_err.result) (λ none. tt));
}
