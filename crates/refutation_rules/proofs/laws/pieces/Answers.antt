use Rattle.refutation_rules.proofs.Joining as here
use Rattle.refutation_rules.proofs.PieceRowsFacts as rows
use Rattle.refutation_rules.proofs.laws.pieces.Goals as goal

pub returns-clause-piece_carries : goal.returns-clause-piece_carries
returns-clause-piece_carries c = here.piece_carries

pub returns-clause-pieces_join : goal.returns-clause-pieces_join
returns-clause-pieces_join c = here.pieces_join

pub returns-clause-piece_rows : goal.returns-clause-piece_rows
returns-clause-piece_rows c = rows.piece_rows
