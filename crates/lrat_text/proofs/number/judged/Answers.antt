use Rattle.std.proofs.Common.{ap, sym, ◌∙◌}
use Rattle.lrat_text.specs.Numbers.{judged}
use Rattle.lrat_text.proofs.NumberLemmas.{judged-exact, value_of-read}
use Rattle.lrat_text.proofs.number.judged.Goals as goal
use Rattle.lrat_text.proofs.number.judged.Goals.{else-negative-via-then-negative+else-value-eq0, else-negative-via-else-negative}

pub returns-else-negative : goal.returns-else-negative
returns-else-negative c =
    let digits = c.args.digits.now in
    sym (ap (judged c.args.negative) (value_of-read digits c.digits.digit-index c.digits.value
    (rw c.if-large.false at c.digits.invariant.read) c.digits-test.false (λ e. let bad = rw e at c.if-is_empty.ensures in absurd cc))
    ∙ judged-exact c.args.negative c.digits.value c.digits.invariant.fits (elim c.else-negative.branch [
      | else-negative-via-then-negative+else-value-eq0 w ↦ λ t. w.if-value-eq0.false
      | else-negative-via-else-negative w ↦ λ t z. let f = w.if-negative.false in absurd cc
    ]))
