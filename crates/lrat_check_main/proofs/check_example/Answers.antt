use Rattle.std.proofs.Common.{◌≢◌}
use Rattle.lrat_check_main.proofs.Meant.{no_piece}
use Rattle.lrat_check_main.proofs.check_example.Goals as goal
use Rattle.verdicts.proofs.Ending.{ends_shown}
use Rattle.verdicts.specs.Pieces.{piece_line, shows_wanted}
use Rattle.verdicts.specs.declared.piece.PieceVerdict.TheVariants.{Carried}

pub returns : goal.returns
returns g c = record {
  ends = rw c.ended.ensures
      (ends_shown piece_line shows_wanted (λ verdict. verdict ≢ Carried) (Unit {0}) _ _ c.as_piece-checked.result c.show_line-outcome.result c.show_line-outcome.ensures
      (rw c.as_piece-checked.ensures (no_piece c.run_check.result)) (λ refused. tt));
}
