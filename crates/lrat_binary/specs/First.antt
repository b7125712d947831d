-- The first bytes of a proof, which are seen before it is read.
--     bytes_in      those that come first and were not given, and then those of the reader
--     IsSeen wanted seen left      this many bytes were seen, or the input has ended
--     SeesFirst seen left      enough of them to detect the form
use Rattle.std.specs.Prelude.{◌≡◌, ℕ, ◌≤◌, ◌⊎◌, true, List, drop, length, Option}
use Rattle.std.specs.Io.KnownBytes.{IsAtEnd, prepend_known}
use Rattle.lrat_binary.specs.Telling.{begins_as_binary}
use Rattle.lrat_binary.specs.declared.first.FirstBytes.{FirstBytes}

abbrev pub bytes_in : {R : Type 0} → (R → Option (List ℕ)) → FirstBytes R → Option (List ℕ)
bytes_in remaining f = prepend_known (drop f.given f.first.items) (remaining f.inner)

abbrev pub IsSeen : ℕ → List ℕ → Option (List ℕ) → Type 0
IsSeen wanted seen left = (wanted ≤ length seen) ⊎ IsAtEnd left

-- one byte, and 4,096 where a binary line may begin with it
pub record SeesFirst (seen : List ℕ) (left : Option (List ℕ)) : Type 0 where
  pub one : IsSeen 1 seen left
  pub more : begins_as_binary seen ≡ true → IsSeen 4096 seen left
