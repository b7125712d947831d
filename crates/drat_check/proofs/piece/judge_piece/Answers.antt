use Rattle.drat_check.proofs.PieceCores.{no_core}
use Rattle.drat_check.proofs.WrittenLines.{began_none}
use Rattle.drat_check.proofs.piece.judge_piece.Goals as goal

pub returns-in-Err-clause-lines : goal.returns-in-Err-clause-lines
returns-in-Err-clause-lines g c = λ none. began_none

pub returns-in-Err-first_missing-clause-lines : goal.returns-in-Err-first_missing-clause-lines
returns-in-Err-first_missing-clause-lines g c = λ none. began_none

pub returns-in-Err-elaborate-clause-lines : goal.returns-in-Err-elaborate-clause-lines
returns-in-Err-elaborate-clause-lines g c = λ none. began_none

pub returns-in-Some-clause-core : goal.returns-in-Some-clause-core
returns-in-Some-clause-core g c = rw c.in-Some.is c.show_core.ensures.core

pub returns-clause-core : goal.returns-clause-core
returns-clause-core g c = rw c.in-None.is (no_core c.args.formula.now c.args.wanted.now c.show_piece.result c.show_piece.ensures.run)
