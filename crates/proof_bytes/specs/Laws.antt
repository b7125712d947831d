-- Laws of the spelling and of reading.
--     NoSpellingBeginsAnother, SpelledIsRead, ReadIsSpelled      a step and its one spelling, in each format
--     StartIsRead      how a text begins: with the mark, or with a step
--     TextIsRead      many steps, with the widths that they set
--     TextGrows      many steps written one by one
use Rattle.std.specs.Prelude.{◌≡◌, ◌≢◌, ℕ, suc, List, [], ◌∷◌, ◌++◌, Ok, Err}
use Rattle.checker_rules.specs.Step.{Step}
use Rattle.proof_bytes.specs.declared.fault.MalformedStep.TheVariants.{UnknownTag}
use Rattle.proof_bytes.specs.declared.format.Format.{Format}
use Rattle.proof_bytes.specs.declared.format.Format.TheVariants as formats
use Rattle.proof_bytes.specs.Reading.{Short, Wrong, ◌>>=◌}
use Rattle.proof_bytes.specs.Spelling.{spells, IsStep}
use Rattle.proof_bytes.specs.Steps.{step_at, next_at, then_after}
use Rattle.proof_bytes.specs.Taking.{IsBytes}
use Rattle.proof_bytes.specs.Texts.{ReadsTo, start_of, text, AreSteps, after_all}
use Rattle.proof_bytes.specs.Formats.{after}
use Rattle.proof_bytes.specs.Version2.{writing, mark, text_2, written_after}

-- no spelling begins another
abbrev pub NoSpellingBeginsAnother : Type 0
NoSpellingBeginsAnother = (format : Format) (s t : Step) (x y : List ℕ) → IsStep format s →
    IsStep format t →
    spells format s ++ x ≡ spells format t ++ y → (s ≡ t) × (x ≡ y)

-- what is spelled is read again, whatever follows
abbrev pub SpelledIsRead : Type 0
SpelledIsRead = (format : Format) (s : Step) (rest : List ℕ) → IsStep format s →
    step_at format (spells format s ++ rest) ≡ Ok (s, rest)

-- what is read is the one spelling
abbrev pub ReadIsSpelled : Type 0
ReadIsSpelled = (format : Format) (s : Step) (bytes rest : List ℕ) → IsBytes bytes →
    step_at format bytes ≡ Ok (s, rest) →
    (bytes ≡ spells format s ++ rest) × IsStep format s

-- where a text has begun a step comes; a text that begins with the mark has version 2, any other but a broken mark has version 1
pub record StartIsRead : Type 0 where
  pub later : (format : Format) (bytes : List ℕ) → format ≢ formats.Start →
      next_at format bytes ≡ (step_at format bytes >>= then_after format)
  pub empty : next_at formats.Start [] ≡ Err Short
  pub plain : (tag : ℕ) (bytes : List ℕ) →
      next_at formats.Start (suc tag ∷ bytes) ≡ next_at formats.Numbers (suc tag ∷ bytes)
  pub marked : (bytes : List ℕ) → next_at formats.Start (0 ∷ 2 ∷ bytes) ≡
      next_at (formats.Bytes 64) bytes
  pub half : next_at formats.Start (0 ∷ []) ≡ Err Short
  pub broken : (second : ℕ) (bytes : List ℕ) → second ≢ 2 →
      next_at formats.Start (0 ∷ second ∷ bytes) ≡ Err (Wrong UnknownTag)

-- what is written of many steps is read again, whatever follows: in each format, and from the start of a text of either version
pub record TextIsRead : Type 0 where
  pub later : (format : Format) (steps : List Step) (rest : List ℕ) → format ≢ formats.Start →
      AreSteps format steps →
      ReadsTo (format, text format steps ++ rest) steps (after_all format steps, rest)
  pub version_1 : (s : Step) (steps : List Step) (rest : List ℕ) →
      AreSteps formats.Numbers (s ∷ steps) →
      ReadsTo (start_of (text formats.Numbers (s ∷ steps) ++ rest)) (s ∷ steps)
      (formats.Numbers, rest)
  pub version_2 : (s : Step) (steps : List Step) (rest : List ℕ) →
      AreSteps (formats.Bytes 64) (s ∷ steps) →
      ReadsTo (start_of (text_2 (s ∷ steps) ++ rest)) (s ∷ steps) (written_after (s ∷ steps), rest)

-- a text grows by what is written for one more step: so what was written step by step is such a text
pub record TextGrows : Type 0 where
  pub version_1 : (steps : List Step) (s : Step) →
      text formats.Numbers (steps ++ s ∷ []) ≡ text formats.Numbers steps ++
      spells formats.Numbers s
  pub version_2 : (steps : List Step) (s : Step) →
      text_2 (steps ++ s ∷ []) ≡ text_2 steps ++
      (mark (written_after steps) ++ spells (writing (written_after steps)) s)
  pub format : (steps : List Step) (s : Step) →
      written_after (steps ++ s ∷ []) ≡ after s (writing (written_after steps))
  pub fits_1 : (steps : List Step) (s : Step) → AreSteps formats.Numbers steps →
      IsStep formats.Numbers s → AreSteps formats.Numbers (steps ++ s ∷ [])
  pub fits_2 : (steps : List Step) (s : Step) → AreSteps (formats.Bytes 64) steps →
      IsStep (writing (written_after steps)) s → AreSteps (formats.Bytes 64) (steps ++ s ∷ [])
