-- Texts of many steps.
--     Place, start_of, next_of      a place in a text, and the next step there
--     ReadsTo      the steps from a place to another
--     text, AreSteps, after_all      the bytes of many steps
use Rattle.std.specs.Prelude.{◌≡◌, ◌⊎◌, ℕ, List, [], ◌∷◌, ◌++◌, Ok, Err}
use Rattle.std.proofs.Common.{inl, inr}
use Rattle.checker_rules.specs.Step.{Step}
use Rattle.proof_bytes.specs.declared.format.Format.{Format}
use Rattle.proof_bytes.specs.declared.format.Format.TheVariants as formats
use Rattle.proof_bytes.specs.Formats.{after}
use Rattle.proof_bytes.specs.Reading.{Fault, Found}
use Rattle.proof_bytes.specs.Spelling.{spells, IsStep}
use Rattle.proof_bytes.specs.Steps.{next_at}

-- a place in a text: how it spells its hashes from there on, and its bytes from there on
abbrev pub Place : Type 0
Place = Format × List ℕ

-- where a text begins
abbrev pub start_of : List ℕ → Place
start_of text = (formats.Start, text)

-- what was found, as a run takes it
abbrev pub step_or_fault : Found (Format × Step) → (Step × Place) ⊎ Fault
step_or_fault (Ok found) = inl (found.0.1, (found.0.0, found.1))
step_or_fault (Err fault) = inr fault

-- the next step of a text and the place after it, or the fault there
unfoldable pub next_of : Place → (Step × Place) ⊎ Fault
next_of place = step_or_fault (next_at place.0 place.1)

-- from here on these steps are read, and then the text is there
abbrev pub ReadsTo : Place → List Step → Place → Type 0
ReadsTo here [] there = here ≡ there
ReadsTo here (step ∷ steps) there = (next : Place) × (next_of here ≡ inl (step, next))
    × ReadsTo next steps there

-- the bytes of these steps, one after the other
unfoldable pub text : Format → List Step → List ℕ
text format [] = []
text format (step ∷ steps) = spells format step ++ text (after step format) steps

-- each of the steps has a spelling in the format in force before it
abbrev pub AreSteps : Format → List Step → Type 0
AreSteps format [] = Unit {0}
AreSteps format (step ∷ steps) = IsStep format step × AreSteps (after step format) steps

-- the format after these steps
abbrev pub after_all : Format → List Step → Format
after_all format [] = format
after_all format (step ∷ steps) = after_all (after step format) steps
