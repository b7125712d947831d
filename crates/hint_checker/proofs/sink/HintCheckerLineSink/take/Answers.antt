use Rattle.lrat_text.specs.NextLine.{view}
use Rattle.hint_checker.proofs.StreamLemmas.{takes_line}
use Rattle.hint_checker.proofs.sink.HintCheckerLineSink.take.Goals as goal

pub returns : goal.returns
returns c = λ first ls so wanted.
    takes_line first c.args.self.now c.check_line.new.self ls (view c.args.line) so c.check_line.result c.check_line.ensures.accepted c.check_line.ensures.refused c.check_line.ensures.small
