use Rattle.receipts.proofs.Joining as here
use Rattle.receipts.proofs.laws.parts_are_refuted.Goals as goal

pub returns : goal.returns
returns c = λ text_for text_of receipts formula split honest stands shown. here.parts c.shown_is_refuted.ensures c.cubes_cover.ensures text_for text_of receipts honest formula split stands shown
