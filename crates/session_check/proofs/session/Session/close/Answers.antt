use Rattle.std.proofs.Common.{refl, ap}
use Rattle.session_check.specs.Progress.{pending_in}
use Rattle.session_check.specs.declared.session.Turn.{Turn}
use Rattle.session_check.proofs.session.Session.close.Goals as goal

pub returns-in-Answered-clause-closes : goal.returns-in-Answered-clause-closes
returns-in-Answered-clause-closes c =
    let s = c.args.self.now in
    (s.assumed.items, s.told.items, s.times, ap (λ (t : Turn). pending_in t s.assumed.items s.told.items s.times) c.in-Answered.is, refl)
