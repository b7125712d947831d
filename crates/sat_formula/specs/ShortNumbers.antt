-- Short numbers in front of the bytes that are read ahead.
use Rattle.std.specs.Prelude.{◌≡◌, ℕ, ◌<◌, ◌^◌, Bool, true, List, ◌++◌, length, slice_index, take, IsTrue, ◌||◌, ◌==◌}
use Rattle.sat_formula.specs.declared.word.Number.{Number}
use Rattle.sat_formula.specs.declared.word.Number.TheVariants.{Digits}
use Rattle.sat_formula.specs.Bytes.{is_blank, is_digit}
use Rattle.sat_formula.specs.Text.{At, InNumber, next_at}
use Rattle.sat_formula.specs.declared.past.Past.{Past}
use Rattle.sat_formula.specs.Reading.{place_of}

-- the first n bytes are digits, and lead from a number of the value 0 to one of the value v
pub record HasDigits (bytes : List ℕ) (n v : ℕ) : Type 0 where
  pub small : v < 10 ^ n
  pub digits : (k : ℕ) → k < n → is_digit (slice_index bytes k) ≡ true
  pub reads : (line : ℕ) (past : Past) (begun : List ℕ) (negative : Bool) (more : List ℕ) →
      next_at (At line past begun (InNumber (Digits negative 0))) (take n bytes ++ more) ≡
      next_at (At line past begun (InNumber (Digits negative v))) more

-- the first this many bytes lead from between two words to a number's end, and this byte ends it
pub record IsShortNumber (bytes : List ℕ) (number : Number) (len end : ℕ) : Type 0 where
  pub within : len < length bytes
  pub reads : (line : ℕ) (past : Past) (begun : List ℕ) (in_line : Bool) (more : List ℕ) →
      next_at (At line past begun (place_of in_line)) (take len bytes ++ more) ≡
      next_at (At line past begun (InNumber number)) more
  pub ended : slice_index bytes len ≡ end
  pub ends : IsTrue (is_blank end || (end == 10))
