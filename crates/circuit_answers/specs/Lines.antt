-- The texts of verdicts on answers.
--     possible_text input outputs, different_text input outputs others, open_text
use Rattle.std.specs.Prelude.{ℕ, Bool, if◌then◌else◌, List, [], ◌∷◌, ◌++◌, codes, map}

-- the digit of a value, as a byte
abbrev pub digit_of : Bool → ℕ
digit_of b = if b then 49 else 48

-- a letter, a space, the digits of values, and a line feed
abbrev pub values_line : ℕ → List Bool → List ℕ
values_line letter values = letter ∷ 32 ∷ (map digit_of values ++ 10 ∷ [])

-- the lines of the input, after `i`, and of the outputs, after `o`
abbrev pub input_line : List Bool → List ℕ
input_line input = values_line 105 input

abbrev pub outputs_line : List Bool → List ℕ
outputs_line outputs = values_line 111 outputs

-- an output is true
abbrev pub possible_text : List Bool → List Bool → List ℕ
possible_text input outputs =
    codes "s VERIFIED POSSIBLE\n" ++ (input_line input ++ outputs_line outputs)

-- the outputs of two circuits differ
abbrev pub different_text : List Bool → List Bool → List Bool → List ℕ
different_text input outputs others =
    codes "s VERIFIED DIFFERENT\n" ++ (input_line input ++ (outputs_line outputs ++ outputs_line others))

-- the answer shows nothing
abbrev pub open_text : List ℕ
open_text = codes "s NOT VERIFIED\n"
