use Rattle.join_check.proofs.PartLines.{against_small, part_digest}
use Rattle.join_check.proofs.part_texts.PartTexts.closing_digest.Goals as goal

pub returns : goal.returns
returns c =
    part_digest c.args.self.now _ _ _ _ c.clauses_are_read.ensures (against_small c.args.cubes.now c.codes_are_small.ensures)
    (λ formula are. c.begin.ensures _ (c.in_ok-begun.ensures _ are.lines)) c.in_ok-push_against.ensures c.digest.ensures
