use Rattle.std.proofs.Common.{refl, inr}
use Rattle.command.proofs.begin.answer.Goals as goal

-- the call that the words make, and what the program's own part answers for it
pub returns-in-Some : goal.returns-in-Some
returns-in-Some g c =
    let begun = rw c.in-Some.is at c.in_ok-call.ensures in
    inr (inr (c.in-Some.call, begun.0, begun.1, (_, c.run.ensures, refl)))
