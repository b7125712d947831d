use Rattle.std.proofs.Common.{refl, ◌∙◌, ◌-◌, ◌^◌, ◌∷◌}
use Rattle.proof_bytes.proofs.Fronts.{alone, begins, ends}
use Rattle.proof_bytes.proofs.FieldLemmas.{below_read}
use Rattle.proof_bytes.proofs.ahead.short_lit.Goals as goal

pub returns-then-first-lt128-clause-read : goal.returns-then-first-lt128-clause-read
returns-then-first-lt128-clause-read c = λ more.
    rw c.in_ok-from_code.ensures.1 (below_read (2 ^ 29) _ _ more (alone c.args.first more c.if-first-lt128.true) c.in_ok-from_code.ensures.0)

pub returns-clause-read : goal.returns-clause-read
returns-clause-read c = λ more.
    let read = begins c.args.first (c.args.second ∷ more) c.if-first-lt128.false
    ∙ ends c.args.second more 7 (c.args.first - 128) 128 8 refl c.if-second-eq0.false c.if-second-ge128.false in
    rw c.in_ok-from_code-2.ensures.1 (below_read (2 ^ 29) _ _ more read c.in_ok-from_code-2.ensures.0)
