use Rattle.std.proofs.Common.{◌≡◌, true, [], ◌∷◌, ◌++◌, Some, rules, subst, sym}
use Rattle.session_text.specs.declared.format.Format.TheVariants.{Lidrup}
use Rattle.session_text.specs.NextLine.{line_read}
use Rattle.session_check.specs.Lines.{is_heard}
use Rattle.session_check.specs.NextLine.{At, ReadsBy}
use Rattle.session_check.specs.declared.lines.Ahead.{Ahead}
use Rattle.session_check.specs.declared.lines.Ahead.TheVariants.{Unread}
use Rattle.session_check.proofs.JoinLemmas.{ahead_ended, ahead_fault, ahead_read, heard_read}
use Rattle.session_check.proofs.TextLemmas.{begins_at}
use Rattle.session_check.proofs.lines.SessionLines.look_ahead.Goals as goal

pub returns-in-Ok-Some-clause-reads : goal.returns-in-Ok-Some-clause-reads
returns-in-Ok-Some-clause-reads g c known lines h =
    let so_far = At g.P.Read.remaining Lidrup c.args.self.now.proof in
    let before : ReadsBy g.P.Read.remaining g.I.Read.remaining so_far known lines (Some c.in-Some.interaction) Unread = rw c.in-Unread.is at (rw c.in-Some.is at h) in
    let there : is_heard c.in-Ok-Some.kind ≡ true = search rules in
    let now = At g.P.Read.remaining Lidrup c.swap_lists.new.self in
    subst
    (λ (a : Ahead). ReadsBy g.P.Read.remaining g.I.Read.remaining now known (lines ++ line_read c.swap_lists.new.self c.in-Ok-Some.kind ∷ []) (Some c.swap_lists.new.other) a)
    (sym c.in-Unread.is)
    (heard_read g.P.Read.remaining g.I.Read.remaining known lines c.args.self.now.proof c.swap_lists.new.self c.in-Some.interaction c.next_line.new.self c.swap_lists.new.other c.in-Ok-Some.kind
    there (rw c.in-Ok-Some.field-0-is at c.in-Ok-Some.ensures.reads) c.swap_lists.ensures.content c.swap_lists.ensures.bytes c.swap_lists.ensures.spot c.swap_lists.ensures.other_bytes
    c.swap_lists.ensures.other_spot before)

pub returns-in-Ok-Some-2-clause-reads : goal.returns-in-Ok-Some-2-clause-reads
returns-in-Ok-Some-2-clause-reads g c known lines h =
    let so_far = At g.P.Read.remaining Lidrup c.args.self.now.proof in
    let before : ReadsBy g.P.Read.remaining g.I.Read.remaining so_far known lines (Some c.in-Some.interaction) Unread = rw c.in-Unread.is at (rw c.in-Some.is at h) in
    ahead_read g.P.Read.remaining g.I.Read.remaining so_far known lines c.in-Some.interaction c.next_line.new.self c.in-Ok-Some.kind
    (rw c.in-Ok-Some.field-0-is at c.in-Ok-Some.ensures.reads) before

pub returns-in-Ok-None-clause-reads : goal.returns-in-Ok-None-clause-reads
returns-in-Ok-None-clause-reads g c known lines h =
    let so_far = At g.P.Read.remaining Lidrup c.args.self.now.proof in
    let before : ReadsBy g.P.Read.remaining g.I.Read.remaining so_far known lines (Some c.in-Some.interaction) Unread = rw c.in-Unread.is at (rw c.in-Some.is at h) in
    ahead_ended g.P.Read.remaining g.I.Read.remaining so_far known lines c.in-Some.interaction c.next_line.new.self (rw c.in-Ok-None.field-0-is at c.in-Ok-None.ensures.reads) before

pub returns-in-Err-clause-reads : goal.returns-in-Err-clause-reads
returns-in-Err-clause-reads g c known lines h =
    let so_far = At g.P.Read.remaining Lidrup c.args.self.now.proof in
    let before : ReadsBy g.P.Read.remaining g.I.Read.remaining so_far known lines (Some c.in-Some.interaction) Unread = rw c.in-Unread.is at (rw c.in-Some.is at h) in
    ahead_fault g.P.Read.remaining g.I.Read.remaining so_far known lines c.in-Some.interaction c.next_line.new.self c.in-Err.fault
    (begins_at g.P.Read.remaining Lidrup c.args.self.now.proof) c.in-Err.ensures.reads before
