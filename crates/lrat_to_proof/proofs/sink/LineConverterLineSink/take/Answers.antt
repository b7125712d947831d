use Rattle.lrat_text.specs.NextLine.{view}
use Rattle.lrat_to_proof.proofs.LineLemmas.{takes_line}
use Rattle.lrat_to_proof.proofs.sink.LineConverterLineSink.take.Goals as goal

pub returns : goal.returns
returns g c = λ first ls so wanted.
    let now = c.args.self.now in
    let r = c.take_line.ensures in
    takes_line so.0 so.1 g.W.Write.contents (g.W.Write.contents first.out.now) first.converter.now ls now.out.now now.converter.now so.2 (view c.args.line) wanted
    c.take_line.new.out c.take_line.new.self c.take_line.result r.ok r.err r.refused r.given_up
