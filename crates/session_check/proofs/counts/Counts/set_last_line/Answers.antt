use Rattle.std.proofs.lemmas.Result.{on_ok_weaker}
use Rattle.session_check.proofs.LineLemmas.{last_line_shown}
use Rattle.session_check.proofs.counts.Counts.set_last_line.Goals as goal

pub returns : goal.returns
returns c = on_ok_weaker c.push_count-4.result
    (last_line_shown c.args.self.now _ _ _ _ _ c.if-self-gt0.false c.clear.ensures.items c.in_ok-extend_from_slice.ensures.items c.in_ok-push_count-2.ensures
    c.in_ok-push_count-3.ensures) c.push_count-4.ensures
