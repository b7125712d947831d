use Rattle.lrat_check_main.proofs.run.Goals as goal

-- the name of the target clauses is that of the call
pub returns-in-Some : goal.returns-in-Some
returns-in-Some g c = record { ends = rw c.in-Some.ensures at c.check_piece.ensures.ends }

pub returns-in-None : goal.returns-in-None
returns-in-None g c = record { ends = rw c.in-None.ensures at c.check_files.ensures.ends }
