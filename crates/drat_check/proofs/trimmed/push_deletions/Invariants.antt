use Rattle.std.proofs.Common.{◌≡◌, ◌++◌, drop, List, ℕ}
use Rattle.lrat_checker.specs.Standing.{IsReady}
use Rattle.lrat_rules.specs.Lines.{Line}
use Rattle.sat_output.specs.DratTexts.{deletions_text}
use Rattle.drat_check.proofs.trimmed.push_deletions.Given as goal

-- with the deletions to come it is the whole text
abbrev pub invariant-loop-id : goal.invariant-loop-id
invariant-loop-id l = (formula : List (List ℕ)) (lines : List Line) → (ready : IsReady formula lines l.fn.checker) →
    l.text.items ++ deletions_text ready.accepted.store (drop l.id-index l.ids) ≡ l.fn.text.items ++ deletions_text ready.accepted.store l.ids
