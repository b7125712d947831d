-- Bytes within a line.
--     IsOpen      no LF is among the bytes
--     IsLine      they are a line, or the rest of one, and its LF
--     words_in      their words
use Rattle.std.specs.Prelude.{◌≡◌, ℕ, All, Bool, false, ◌||◌, List, [], ◌∷◌, ◌++◌, filter}
use Rattle.std.specs.List.{slice_split}
use Rattle.sat_formula.specs.Bytes.{is_blank, is_lf}
use Rattle.sat_formula.specs.Lines.{has_bytes}

-- no LF is among the bytes
abbrev pub IsOpen : List ℕ → Type 0
IsOpen bytes = All (λ b. is_lf b ≡ false) bytes

-- the bytes of a line, and the LF that ends it
pub record IsLine (bytes : List ℕ) : Type 0 where
  pub line : List ℕ
  pub is : bytes ≡ line ++ 10 ∷ []
  pub is_open : IsOpen line

-- a blank or an LF, which end a word
abbrev pub ends_word : ℕ → Bool
ends_word b = is_blank b || is_lf b

-- the words of bytes: what is between blanks and LFs
abbrev pub words_in : List ℕ → List (List ℕ)
words_in bytes = filter has_bytes (slice_split ends_word bytes)
