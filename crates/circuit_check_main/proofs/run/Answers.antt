use Rattle.std.proofs.Common.{◌≡◌, false, true, codes}
use Rattle.circuit_check_main.proofs.Ending.{means_more, stopped_more}
use Rattle.circuit_check_main.proofs.run.Goals as goal
use Rattle.circuit_check_main.specs.Meaning.{of_example, of_never, of_safe, of_same, of_stimulus}
use Rattle.command.specs.Calls.{choices_of, is_given}

-- the files are those of the call
pub returns-then-has-clause-ends : goal.returns-then-has-clause-ends
returns-then-has-clause-ends g c =
    let asked : is_given (choices_of c.args.call.now) (codes "--example") ≡ true = cc in
    means_more _ _ _ _ (λ shown h. of_example asked h) c.check_example.result c.check_example.ensures.ends

pub returns-in-Never-clause-ends : goal.returns-in-Never-clause-ends
returns-in-Never-clause-ends g c =
    let claimed = rw c.in-Never.is at c.in_ok-claimed.ensures in
    let alone : is_given (choices_of c.args.call.now) (codes "--example") ≡ false = cc in
    means_more _ _ _ _ (λ shown h. of_never _ claimed alone h) c.run_of_never.result c.run_of_never.ensures.ends

pub returns-in-Same-clause-ends : goal.returns-in-Same-clause-ends
returns-in-Same-clause-ends g c =
    let claimed = rw c.in-Same.is at c.in_ok-claimed.ensures in
    let alone : is_given (choices_of c.args.call.now) (codes "--example") ≡ false = cc in
    means_more _ _ _ _ (λ shown h. of_same _ _ claimed.0 alone h) c.run_of_same.result c.run_of_same.ensures.ends

pub returns-in-Safe-clause-ends : goal.returns-in-Safe-clause-ends
returns-in-Safe-clause-ends g c =
    let claimed = rw c.in-Safe.is at c.in_ok-claimed.ensures in
    let alone : is_given (choices_of c.args.call.now) (codes "--example") ≡ false = cc in
    means_more _ _ _ _ (λ shown h. of_safe _ _ claimed alone h) c.run_of_safe.result c.run_of_safe.ensures.ends

pub returns-in-Safe-clause-unnamed : goal.returns-in-Safe-clause-unnamed
returns-in-Safe-clause-unnamed g c =
    let claimed = rw c.in-Safe.is at c.in_ok-claimed.ensures in
    stopped_more _ _ _ (λ stops. (_, _, claimed, stops)) c.run_of_safe.result c.run_of_safe.ensures.unnamed

pub returns-in-Reached-clause-ends : goal.returns-in-Reached-clause-ends
returns-in-Reached-clause-ends g c =
    let claimed = rw c.in-Reached.is at c.in_ok-claimed.ensures in
    let alone : is_given (choices_of c.args.call.now) (codes "--example") ≡ false = cc in
    means_more _ _ _ _ (λ shown h. of_stimulus _ claimed alone h) c.run_of_reached.result c.run_of_reached.ensures.ends
