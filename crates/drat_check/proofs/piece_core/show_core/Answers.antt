use Rattle.drat_check.proofs.PieceCores.{core_began, core_unwritten, core_written, shown_whole}
use Rattle.drat_check.proofs.piece_core.show_core.Goals as goal

pub returns-in-Err-show_piece-clause-core : goal.returns-in-Err-show_piece-clause-core
returns-in-Err-show_piece-clause-core g c =
    core_unwritten c.args.formula.now c.args.wanted.now (g.C.Write.contents c.args.core.now) c.in-Err-show_piece.fault

pub returns-in-Ok-write_clauses-clause-run : goal.returns-in-Ok-write_clauses-clause-run
returns-in-Ok-write_clauses-clause-run g c =
    shown_whole c.args.formula.now c.in-Ok.used c.args.wanted.now c.in-Ok.ensures c.in-Ok-show_piece.verdict c.in-Ok-show_piece.ensures.run

pub returns-in-Ok-write_clauses-clause-core : goal.returns-in-Ok-write_clauses-clause-core
returns-in-Ok-write_clauses-clause-core g c =
    core_written c.args.formula.now c.args.wanted.now _ _ c.in-Ok.used c.in-Ok.ensures c.in-Ok-write_clauses.ensures.whole
    c.in-Ok-show_piece.verdict c.in-Ok-show_piece.ensures.decided c.in-Ok-show_piece.ensures.run

pub returns-clause-core : goal.returns-clause-core
returns-clause-core g c =
    core_began c.args.formula.now c.args.wanted.now _ _ c.in-Ok.used c.in-Ok.ensures c.in-Err-write_clauses.ensures.beginning
