use Rattle.std.proofs.Common.{[], refl}
use Rattle.session_text.specs.declared.format.Format.TheVariants.{Icnf, Lidrup}
use Rattle.session_check.proofs.TextLemmas.{at_start}
use Rattle.session_check.proofs.lines.SessionLines.new.Goals as goal

pub returns : goal.returns
returns g c = (
  [],
  record {
    pairs = [];
    paired = tt;
    repeated = refl;
    by_interaction = at_start g.I.Read.remaining Icnf c.new-2.result _ c.new-2.ensures.bytes c.new-2.ensures.spot;
    by_proof = at_start g.P.Read.remaining Lidrup c.new.result _ c.new.ensures.bytes c.new.ensures.spot;
    session = refl;
  },
)
