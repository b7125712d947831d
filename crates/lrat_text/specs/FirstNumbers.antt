-- The number in front of a line.
--     IsFirst words n later      the first word says the number n, and the later ones follow it
--     HasDigits bytes n v      the first n bytes of a line are digits of the value v
--     IsDigitsWord bytes v rest      a line begins with a word of digits, and the rest of it follows
use Rattle.std.specs.Prelude.{◌≡◌, ℕ, ◌<◌, ◌^◌, true, List, ◌∷◌, Some, length, slice_index, take, drop}
use Rattle.sat_formula.specs.Bytes.{is_digit}
use Rattle.sat_formula.specs.Lines.{value_from}
use Rattle.lrat_text.specs.Bytes.{IsLine, ends_word, words_in}
use Rattle.lrat_text.specs.declared.number.Number.{Number}
use Rattle.lrat_text.specs.Items.{Words}
use Rattle.lrat_text.specs.Numbers.{number_of}

-- the first word says this number, and these words follow it
pub record IsFirst (all : Words) (number : Number) (later : Words) : Type 0 where
  pub word : List ℕ
  pub words : all ≡ word ∷ later
  pub says : number_of word ≡ number

-- the first n bytes are digits of the value v, which has 64 bits, and a byte follows them
pub record HasDigits (bytes : List ℕ) (n v : ℕ) : Type 0 where
  pub within : n < length bytes
  pub digits : (k : ℕ) → k < n → is_digit (slice_index bytes k) ≡ true
  pub value : value_from 0 (take n bytes) ≡ Some v
  pub fits : v < 2 ^ 64

-- the bytes begin with a word of digits of the value v, and after it come the words of the rest
pub record IsDigitsWord (bytes : List ℕ) (v : ℕ) (rest : List ℕ) : Type 0 where
  pub len : ℕ
  pub digits : HasDigits bytes len v
  pub some : 0 < len
  pub end : ends_word (slice_index bytes len) ≡ true
  pub words : words_in rest ≡ words_in (drop len bytes)
  pub line : IsLine rest
  pub shorter : length rest < length bytes
