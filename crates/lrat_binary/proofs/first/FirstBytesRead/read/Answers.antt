use Rattle.std.proofs.Common.{◌≤◌, drop, length, arith}
use Rattle.std.proofs.lemmas.List.{drop_all}
use Rattle.lrat_binary.proofs.FirstLemmas.{read_behind}
use Rattle.lrat_binary.proofs.first.FirstBytesRead.read.Goals as goal

pub returns-then-left-eq0-clause-bytes : goal.returns-then-left-eq0-clause-bytes
returns-then-left-eq0-clause-bytes g c =
    let s = c.args.self.now in
    let gone : length s.first.items ≤ s.given = omega (arith, c.if-left-eq0.true, c.len.ensures, s.first.ok.0) in
    read_behind (drop s.given s.first.items) (g.R.Read.remaining s.inner) (g.R.Read.remaining c.read.new.self) c.read.result c.read.new.buf
    (drop_all s.given s.first.items gone) c.read.ensures.bytes
