use Rattle.std.proofs.Common.{◌≡◌, ℕ, refl, ap, rules}
use Rattle.session_text.specs.declared.line.Status.TheVariants.{Unsatisfiable}
use Rattle.session_check.specs.Progress.{Progress, pending_in, progress_of}
use Rattle.session_check.specs.declared.session.Turn.{Turn}
use Rattle.session_check.specs.declared.session.Turn.TheVariants.{Answered}
use Rattle.session_check.proofs.session.Session.announce.Goals as goal

pub returns : goal.returns
returns c =
    let s = c.args.self.now in
    let turn : s.turn ≡ Answered Unsatisfiable = search rules in
    let before : Progress = progress_of s in (
      s.assumed.items,
      s.told.items,
      s.times,
      ap (λ (t : Turn). pending_in t s.assumed.items s.told.items s.times) turn,
      refl,
      ap (λ (m : ℕ). record before { more = m }) c.saturating_sub-self.ensures,
    )
