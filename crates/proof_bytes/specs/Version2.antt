-- Writing a text of version 2.
--     writing, mark      how the next step is spelled, and what comes before it
--     text_2, written_after      the whole text of these steps, and how the next one is spelled after it
use Rattle.std.specs.Prelude.{ℕ, List, [], ◌∷◌}
use Rattle.checker_rules.specs.Step.{Step}
use Rattle.proof_bytes.specs.declared.format.Format.{Format}
use Rattle.proof_bytes.specs.declared.format.Format.TheVariants as formats
use Rattle.proof_bytes.specs.Texts.{text, after_all}

-- the format of the next step
abbrev pub writing : Format → Format
writing formats.Start = formats.Bytes 64
writing formats.Numbers = formats.Numbers
writing (formats.Bytes width) = formats.Bytes width

-- the mark, before the first step
abbrev pub mark : Format → List ℕ
mark formats.Start = 0 ∷ 2 ∷ []
mark formats.Numbers = []
mark (formats.Bytes width) = []

-- the text of these steps: nothing, or the mark and the steps
abbrev pub text_2 : List Step → List ℕ
text_2 [] = []
text_2 (step ∷ steps) = 0 ∷ 2 ∷ text (formats.Bytes 64) (step ∷ steps)

-- how a writer of these steps continues
abbrev pub written_after : List Step → Format
written_after [] = formats.Start
written_after (step ∷ steps) = after_all (formats.Bytes 64) (step ∷ steps)
