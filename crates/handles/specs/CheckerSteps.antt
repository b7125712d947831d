-- Kinds of steps, their numbers, and their steps.
--     kind_of n      the kind of this number
--     step_of k c hs      the step of a kind over these literals and, if it has any, these hashes
use Rattle.std.specs.Prelude.{ℕ, true, false, ◌==◌, if◌then◌else◌, List, Option, None, Some}
use Rattle.checker_rules.specs.Step.{Step, add_clause, assumptions, at_clause, by_redundant, by_satisfied, by_simplified, delete_clause, end_proof, failed_assumptions, model}
use Rattle.handles.specs.declared.checker_kind.StepKind.{StepKind}
use Rattle.handles.specs.declared.checker_kind.StepKind.TheVariants.{AddClause, Assumptions, AtClause, DeleteRedundant, DeleteSatisfied, DeleteSimplified, End, FailedAssumptions, Model, RedundantAtClause}

-- from 1 on, in this order
abbrev pub kind_of : ℕ → Option StepKind
kind_of n =
    if n == 1 then Some AddClause
    else if n == 2 then Some AtClause
    else if n == 3 then Some RedundantAtClause
    else if n == 4 then Some DeleteRedundant
    else if n == 5 then Some DeleteSatisfied
    else if n == 6 then Some DeleteSimplified
    else if n == 7 then Some Model
    else if n == 8 then Some Assumptions
    else if n == 9 then Some FailedAssumptions
    else if n == 10 then Some End
    else None

-- by the kind
abbrev pub step_of : StepKind → List ℕ → List ℕ → Step
step_of AddClause c hs = add_clause c
step_of AtClause c hs = at_clause false c hs
step_of RedundantAtClause c hs = at_clause true c hs
step_of DeleteRedundant c hs = delete_clause by_redundant c
step_of DeleteSatisfied c hs = delete_clause by_satisfied c
step_of DeleteSimplified c hs = delete_clause by_simplified c
step_of Model c hs = model c
step_of Assumptions c hs = assumptions c
step_of FailedAssumptions c hs = failed_assumptions c hs
step_of End c hs = end_proof
