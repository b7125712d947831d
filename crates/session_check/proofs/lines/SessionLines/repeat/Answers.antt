use Rattle.std.proofs.Common.{◌≡◌, true, Some, rules}
use Rattle.session_text.specs.declared.format.Format.TheVariants.{Lidrup}
use Rattle.session_check.specs.Lines.{is_alike}
use Rattle.session_check.specs.NextLine.{AtLine, ReadsBy}
use Rattle.session_check.specs.declared.lines.Ahead.TheVariants.{Next}
use Rattle.session_check.proofs.JoinLemmas.{repeat_read}
use Rattle.session_check.proofs.lines.SessionLines.repeat.Goals as goal

pub returns-in-Next-clause-reads : goal.returns-in-Next-clause-reads
returns-in-Next-clause-reads g c known lines h =
    let line = AtLine g.P.Read.remaining Lidrup c.args.self.now.proof c.args.kind in
    let both : ReadsBy g.P.Read.remaining g.I.Read.remaining line known lines (Some c.in-Some.interaction) (Next c.in-Next.told) = rw c.in-Next.is at (rw c.in-Some.is at h) in
    let alike : is_alike c.in-Next.told c.args.kind ≡ true = search rules in
    repeat_read g.P.Read.remaining g.I.Read.remaining known lines c.args.self.now.proof c.swap_lits.new.self c.in-Some.interaction c.swap_lits.new.other c.args.kind c.in-Next.told alike
    c.swap_lits.ensures.content c.swap_lits.ensures.bytes c.swap_lits.ensures.spot c.swap_lits.ensures.other_bytes c.swap_lits.ensures.other_spot both
