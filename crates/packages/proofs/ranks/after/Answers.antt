use Rattle.std.proofs.Common.{inr, refl, arith}
use Rattle.packages.proofs.Faults.{too_large}
use Rattle.packages.proofs.ranks.after.Goals as goal

pub returns-in-None-with_digit-clause-fault : goal.returns-in-None-with_digit-clause-fault
returns-in-None-with_digit-clause-fault c = λ cs.
    inr (refl, too_large c.in-Some-number.number c.args.byte c.args.number cs c.in-Some-number.is (grind (arith, c.is_digit.ensures, c.if-not-is_digit.false)) (grind (arith, c.in-None-with_digit.ensures)))
