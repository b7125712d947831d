use Rattle.std.proofs.Common.{◌≡◌, refl, ap, rules}
use Rattle.session_text.specs.declared.line.Status.TheVariants.{Satisfiable}
use Rattle.session_checker.specs.Held.{given_by}
use Rattle.session_check.specs.Interactions.{Asked}
use Rattle.session_check.specs.Progress.{pending_in, settled}
use Rattle.session_check.specs.declared.session.Turn.{Turn}
use Rattle.session_check.specs.declared.session.Turn.TheVariants.{Answered}
use Rattle.session_check.proofs.ProgressLemmas.{answer_by, same_progress}
use Rattle.session_check.proofs.session.Session.model.Goals as goal

pub returns : goal.returns
returns c =
    let s = c.args.self.now in
    let turn : s.turn ≡ Answered Satisfiable = search rules in
    let q : Asked = record { given = given_by s.checker; assumed = s.assumed.items; status = Satisfiable; told = s.told.items; times = s.times } in
    let reason = c.in_ok-reason in (
      s.assumed.items,
      s.told.items,
      s.times,
      ap (λ (t : Turn). pending_in t s.assumed.items s.told.items s.times) turn,
      same_progress settled reason.ensures.given reason.ensures.named reason.ensures.broken reason.ensures.more,
      reason.ensures.exact,
      (refl, answer_by q c.args.model.now reason.reason reason.ensures.shown),
    )
