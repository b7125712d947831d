use Rattle.command.specs.Held.{held_in}
use Rattle.varisat_check_main.proofs.Meaning.{hints_are}
use Rattle.varisat_check_main.proofs.hints.hints_of.Goals as goal

-- a new writer wrote the lines of the run
pub returns-clause-hints : goal.returns-clause-hints
returns-clause-hints g c = hints_are (held_in c.args.cnf) (g.P.Read.remaining c.args.proof) c.in_ok-formula.formula c.len.result c.new-writer.result
    c.in_ok-verdict.field-0-1 c.in_ok-verdict.verdict (g.V.Write.contents c.args.lrat.now) (g.V.Write.contents c.run_lrat.new.lrat) c.in_ok-formula.ensures.whole
    c.len.ensures c.new-writer.ensures.writer c.new-writer.ensures.text c.in_ok-verdict.ensures.run c.in_ok-verdict.ensures.lrat
