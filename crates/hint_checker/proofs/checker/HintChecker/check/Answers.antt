use Rattle.std.proofs.Common.{subst, sym}
use Rattle.hint_rules.specs.Accepted.{Accepts}
use Rattle.hint_checker.specs.Checked.{IsRefusal}
use Rattle.hint_checker.proofs.CheckLemmas.{accepts_after, refused_bytes}
use Rattle.hint_checker.proofs.checker.HintChecker.check.Goals as goal

pub returns-in-Ok-clause-accepted : goal.returns-in-Ok-clause-accepted
returns-in-Ok-clause-accepted c h e =
    let found = c.in-Ok.ensures.accepted h e in
    (found.held, subst (λ text. Accepts h text found.held) found.gives found.accepts, found.holds, found.answer)

pub returns-in-Ok-clause-lines : goal.returns-in-Ok-clause-lines
returns-in-Ok-clause-lines c formula lines h e f =
    let found = c.in-Ok.ensures.accepted h e in
    accepts_after formula lines h c.args.text.now found.held _ _ f (subst (λ text. Accepts h text found.held) found.gives found.accepts) found.holds found.answer

pub returns-in-Err-clause-refused : goal.returns-in-Err-clause-refused
returns-in-Err-clause-refused c h e =
    let refused = c.in-Err.ensures.refused h e in
    (subst (λ fault. IsRefusal h c.args.text.now fault) (sym c.of_bytes.ensures) (refused_bytes h c.args.text.now c.in-Err.fault refused.0), refused.1)
