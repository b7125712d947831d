use Rattle.receipts.proofs.Joining as here
use Rattle.receipts.proofs.laws.shown_is_refuted.Goals as goal

pub returns : goal.returns
returns c = λ text_of receipts text honest stands h. here.shown c.pieces.ensures.pieces_join text_of receipts honest text stands h
