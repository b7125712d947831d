-- What the verdict on a call's files means.
--     MeansOf files input cnf claims verdict      claims that are said to follow do, and of those that are said not to one does not
--     Means files input call verdict      the same of the files that a call names
use Rattle.std.specs.Prelude.{◌≡◌, ℕ, List, [], ◌∷◌, Option, Some, codes, false}
use Rattle.command.specs.Calls.{choices_of, is_given, operands_of}
use Rattle.command.specs.Inputs.{bytes_named}
use Rattle.command.specs.declared.call.Call.{Call}
use Rattle.follows_check.specs.Texts.{FollowsText, NotFollowsText}
use Rattle.follows_check.specs.declared.verdict.Verdict.{Verdict}
use Rattle.follows_check.specs.declared.verdict.Verdict.TheVariants.{Follows, NoneFails, NotFollows, Open, Unmet}

-- of the files of these names, if their bytes are known; the claims are those of a file, also if its name is `-`
abbrev pub MeansOf : (List ℕ → Option (List ℕ)) → Option (List ℕ) → List ℕ → List ℕ → Verdict → Type 0
MeansOf files input cnf claims Follows = (text said : List ℕ)
    → bytes_named files input cnf ≡ Some text → files claims ≡ Some said → FollowsText text said
MeansOf files input cnf claims (NotFollows claim line) = (text said : List ℕ)
    → bytes_named files input cnf ≡ Some text → files claims ≡ Some said → NotFollowsText text said
MeansOf files input cnf claims Open = Unit {0}
MeansOf files input cnf claims (Unmet clause line) = Unit {0}
MeansOf files input cnf claims NoneFails = Unit {0}

-- of the first two files that it names; the third one has the proof or the answer
abbrev pub Means : (List ℕ → Option (List ℕ)) → Option (List ℕ) → Call → Verdict → Type 0
Means files input call verdict = (cnf claims proof : List ℕ)
    → operands_of call ≡ cnf ∷ claims ∷ proof ∷ []
    → is_given (choices_of call) (codes "--example") ≡ false
    → MeansOf files input cnf claims verdict
