-- Verdicts and their lines.
use Rattle.std.specs.Prelude.{ℕ, Bool, true, false, List, [], ◌∷◌, ◌++◌, codes}
use Rattle.verdicts.specs.declared.verdict.Verdict.{Verdict}
use Rattle.verdicts.specs.declared.verdict.Verdict.TheVariants.{Verified, NotVerified}

-- the text of a verdict, as bytes
abbrev pub line_of : Verdict → List ℕ
line_of Verified = codes "s VERIFIED UNSAT"
line_of NotVerified = codes "s NOT VERIFIED"

-- the text and a line feed
abbrev pub shown_line : Verdict → List ℕ
shown_line verdict = line_of verdict ++ 10 ∷ []

-- by whether the proof came to the empty clause
abbrev pub verdict_of : Bool → Verdict
verdict_of true = Verified
verdict_of false = NotVerified

-- no assignment satisfies the formula
abbrev pub shows_unsat : Verdict → Bool
shows_unsat Verified = true
shows_unsat NotVerified = false
