use Rattle.model_check.specs.Verdicts.{shown_line, shows_sat}
use Rattle.model_check_main.proofs.check_example.Goals as goal
use Rattle.verdicts.proofs.Ending.{each_verdict, ends_shown}

-- the verdict says nothing of files
pub returns : goal.returns
returns g c = record {
  ends = rw c.ended.ensures
      (ends_shown shown_line shows_sat (λ verdict. Unit {0}) (Unit {0}) _ _ c.map_err-checked.result c.show_line-outcome.result c.show_line-outcome.ensures
      (each_verdict (λ verdict. Unit {0}) (λ verdict. tt) c.map_err-checked.result) (λ refused. tt));
}
