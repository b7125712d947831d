use Rattle.join_check.proofs.PartLines.{part_digest, units_small}
use Rattle.join_check.proofs.part_texts.PartTexts.cube_digest.Goals as goal

pub returns : goal.returns
returns c =
    part_digest c.args.self.now _ _ _ _ c.clauses_are_read.ensures (units_small c.args.cube.now c.clause_is_small.ensures)
    (λ formula are. c.begin.ensures _ (c.in_ok-begun.ensures _ are.lines)) c.in_ok-push_units.ensures c.digest.ensures
