-- Runs over the text that a reader gives.
--     RunsTo      how a run begins
--     RunsOver      a run over the whole text
use Rattle.std.specs.Prelude.{◌≡◌, ◌⊎◌, ℕ, List, [], ◌∷◌, ◌++◌, Option, Some, None}
use Rattle.std.proofs.Common.{inl}
use Rattle.checker_rules.specs.Calls.{attempt}
use Rattle.checker_rules.specs.Outcome.{Cause}
use Rattle.checker_rules.specs.Run.{Runs, move}
use Rattle.checker_rules.specs.State.{State}
use Rattle.checker_rules.specs.Step.{Step}
use Rattle.proof_bytes.specs.Reading.{Fault}
use Rattle.proof_bytes.specs.Taking.{IsBytes}
use Rattle.proof_bytes.specs.Texts.{Place, start_of, next_of}

-- how a run over a text ends: as asked, with a rejected step, or with the text's fault
abbrev pub Answer : Type 0
Answer = Option (Cause ⊎ Fault)

-- the run from s over a text accepts these steps first, and is then in t at that place
abbrev pub RunsTo : State → Place → List Step → State → Place → Type 0
RunsTo s here [] t there = (s ≡ t) × (here ≡ there)
RunsTo s here (step ∷ steps) t there = (next : Place) × (move next_of s here ≡ inl (step, next))
    × RunsTo (attempt s step).after next steps t there

-- this is the text of a reader: all its bytes if it says them, else some bytes
abbrev pub IsTextOf : Option (List ℕ) → List ℕ → Type 0
IsTextOf None text = IsBytes text
IsTextOf (Some known) text = known ≡ text

-- the text of a reader begins so
abbrev pub BeginsTextOf : Option (List ℕ) → List ℕ → Type 0
BeginsTextOf None text = IsBytes text
BeginsTextOf (Some known) text = (rest : List ℕ) × (known ≡ text ++ rest)

-- the run from s over the text of a reader accepts these steps, answers so and ends in r
pub record RunsOver (known : Option (List ℕ)) (s : State) (steps : List Step) (answer : Answer)
    (r : State) : Type 0 where
  pub text : List ℕ
  pub is_text : IsTextOf known text
  pub runs : Runs next_of s (start_of text) steps answer r
