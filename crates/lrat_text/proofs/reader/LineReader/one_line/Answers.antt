use Rattle.std.proofs.Common.{true, false, refl, arith}
use Rattle.sat_formula.specs.Outcome.{next_line}
use Rattle.lrat_text.proofs.ReaderLemmas.{counts_line, line_judged}
use Rattle.lrat_text.proofs.WordLemmas.{words_in-line}
use Rattle.lrat_text.proofs.reader.LineReader.one_line.Goals as goal

pub returns-clause-judged : goal.returns-clause-judged
returns-clause-judged g c =
    let s = c.args.self.now in
    let line = c.in-Some.ensures.line in
    rw c.end_line.ensures
    (line_judged g.R.Read.remaining s (record s { lines = c.take_line.new.self; row = c.read-said.new.self; number = next_line s.number; ended = false })
    line.line true c.read-said.result (line.is_open, rw (c.in-Some.ensures.ahead, line.is) at c.take_line.ensures.bytes) refl refl
    (rw (words_in-line c.in-Some.line.now line) at c.read-said.ensures))

pub returns-clause-counts : goal.returns-clause-counts
returns-clause-counts g c =
    let s = c.args.self.now in
    let nearer = c.take_line.ensures.nearer in
    rw c.end_line.ensures
    (counts_line s (record s { lines = c.take_line.new.self; row = c.read-said.new.self; number = next_line s.number; ended = false })
    (omega (arith, nearer)) c.read-said.result)
