-- Verdicts and their lines.
--     line_of v, shown_line v      the text of a verdict, and its line
--     verdict_of n s      the verdict of a checker that had n input clauses before the proof
--     shows_unsat v      the verdict says that no assignment satisfies the formula
use Rattle.std.specs.Prelude.{ℕ, ◌-◌, ◌==◌, Bool, true, false, List, [], ◌∷◌, ◌++◌, if◌then◌else◌, codes, decimal}
use Rattle.checker_rules.specs.Calls.{shown_inputs, shown_unsat}
use Rattle.checker_rules.specs.State.{State}
use Rattle.varisat_check.specs.declared.verdict.Verdict.{Verdict}
use Rattle.varisat_check.specs.declared.verdict.Verdict.TheVariants.{Unsatisfiable, UnsatisfiableWithAdded, NotShown}

-- the text of a verdict, as bytes
abbrev pub line_of : Verdict → List ℕ
line_of Unsatisfiable = codes "s UNSATISFIABLE"
line_of (UnsatisfiableWithAdded n) =
    codes "s UNSATISFIABLE WITH " ++ (decimal n ++ codes " ADDED CLAUSES")
line_of NotShown = codes "s NOT SHOWN"

-- the text and a line feed
abbrev pub shown_line : Verdict → List ℕ
shown_line v = line_of v ++ 10 ∷ []

-- unsatisfiable where that is recorded and no input clause joined the n before the proof
abbrev pub verdict_of : ℕ → State → Verdict
verdict_of n s = if shown_unsat s then (if shown_inputs s == n then Unsatisfiable
    else UnsatisfiableWithAdded (shown_inputs s - n)) else NotShown

-- no assignment satisfies the formula
abbrev pub shows_unsat : Verdict → Bool
shows_unsat Unsatisfiable = true
shows_unsat (UnsatisfiableWithAdded n) = false
shows_unsat NotShown = false
