use Rattle.session_text.specs.declared.format.Format.TheVariants.{Lidrup}
use Rattle.session_check.proofs.TextLemmas.{at_start}
use Rattle.session_check.proofs.lines.SessionLines.alone.Goals as goal

pub returns : goal.returns
returns g c = at_start g.P.Read.remaining Lidrup c.new.result _ c.new.ensures.bytes c.new.ensures.spot
