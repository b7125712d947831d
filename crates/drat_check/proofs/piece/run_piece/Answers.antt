use Rattle.drat_check.specs.Outputs.{bytes_in}
use Rattle.drat_check.proofs.WrittenPieces.{read_core, read_lies, read_lines, read_run}
use Rattle.drat_check.proofs.piece.run_piece.Goals as goal

-- ---- both formulas were read

pub returns-clause-run : goal.returns-clause-run
returns-clause-run g c =
    read_run (g.F.Read.remaining c.args.cnf) (g.G.Read.remaining c.args.holds) c.in-Ok.formula c.in-Ok-read_formula.wanted
    c.in-Ok.ensures.whole c.in-Ok-read_formula.ensures.whole c.judge_piece.result c.judge_piece.ensures.run

pub returns-clause-lines : goal.returns-clause-lines
returns-clause-lines g c = λ none.
    read_lines (g.F.Read.remaining c.args.cnf) (g.G.Read.remaining c.args.holds) c.in-Ok.formula c.in-Ok-read_formula.wanted
    c.in-Ok.ensures.whole c.in-Ok-read_formula.ensures.whole c.args.outputs.now.form
    (bytes_in g.L.Write.contents c.args.outputs.now.lrat) (bytes_in g.L.Write.contents c.judge_piece.new.outputs.lrat)
    c.judge_piece.result c.judge_piece.ensures.run (c.judge_piece.ensures.lines none)

pub returns-clause-core : goal.returns-clause-core
returns-clause-core g c =
    read_core (g.F.Read.remaining c.args.cnf) (g.G.Read.remaining c.args.holds) c.in-Ok.formula c.in-Ok-read_formula.wanted
    c.in-Ok.ensures.whole c.in-Ok-read_formula.ensures.whole (bytes_in g.C.Write.contents c.args.outputs.now.core)
    (bytes_in g.C.Write.contents c.judge_piece.new.outputs.core) c.judge_piece.result c.judge_piece.ensures.core

pub returns-clause-lies : goal.returns-clause-lies
returns-clause-lies g c =
    rw (c.judge_piece.ensures.lie, c.judge_piece.ensures.wanted_lie)
    (read_lies (g.F.Read.remaining c.args.cnf) (g.G.Read.remaining c.args.holds) c.in-Ok.formula c.in-Ok-read_formula.wanted _ _ _
    c.judge_piece.result c.in-Ok.ensures.lie c.in-Ok-read_formula.ensures.lie c.judge_piece.ensures.run)
