-- A source: the bytes and the room that it has left, and what taking a byte does to both.
use Rattle.std.specs.Prelude.{◌≡◌, ℕ, suc, Bool, is_some, ◌+◌, ◌-◌, List, [], ◌∷◌, slice_range, Option, Some, Result, Ok, Err, IsSome, IfNone, MatchOption}
use Rattle.std.specs.Option.{option_map}
use Rattle.std.specs.IoError.{error_kind}
use Rattle.std.specs.Io.KnownBytes.{prepend_known, Consumes, Keeps, IsAtEnd}
use Rattle.std.specs.declared.io.Error.{Error}
use Rattle.std.specs.declared.io.ErrorKind.TheVariants.{InvalidData}
use Rattle.sat_formula.specs.declared.source.NoByte.{NoByte}
use Rattle.sat_formula.specs.declared.source.NoByte.TheVariants.{End}
use Rattle.sat_formula.specs.declared.source.Source.{Source}

-- what is read ahead and not taken
abbrev pub ahead_of : {R : Type 0} → Source R → List ℕ
ahead_of s = slice_range s.buffer.items s.start s.end

-- what is read ahead and not taken, and then what the reader has left, where that is known
abbrev pub unread : {R : Type 0} → (R → Option (List ℕ)) → Source R → Option (List ℕ)
unread remaining s = prepend_known (ahead_of s) (remaining s.inner)

-- whether it has a limit
abbrev pub is_limited : {R : Type 0} → Source R → Bool
is_limited s = is_some s.left

-- how many bytes it gives from here on at most, where it has a limit
abbrev pub room_of : {R : Type 0} → Source R → Option ℕ
room_of s = option_map (λ left. (s.end - s.start) + left) s.left

-- a read has failed, and its error is kept
abbrev pub HasFailed : {R : Type 0} → Source R → Type 0
HasFailed s = IsSome s.failure

-- a read has failed, or the limit is met
abbrev pub IsStopped : {R : Type 0} → Source R → Type 0
IsStopped s = IfNone s.failure (room_of s ≡ Some 0)

-- the error of the read that failed; one of the kind `InvalidData` where none failed and the limit is met
abbrev pub IsErrorOf : {R : Type 0} → Source R → Error → Type 0
IsErrorOf s e = MatchOption s.failure ((room_of s ≡ Some 0) × (error_kind e ≡ InvalidData))
    (λ failed. e ≡ failed)

-- no byte was taken for this reason; the end is answered only where the reader has no byte left
pub record TakesNone (old new : Option (List ℕ)) (reason : NoByte) : Type 0 where
  pub kept : Keeps old new
  pub at_end : reason ≡ End → IsAtEnd new

-- one byte was taken, or none
abbrev pub TakesByte : Option (List ℕ) → Option (List ℕ) → Result ℕ NoByte → Type 0
TakesByte old new (Ok byte) = Consumes old new (byte ∷ [])
TakesByte old new (Err reason) = TakesNone old new reason

-- a byte takes one from the room
abbrev pub TakesRoom : Option ℕ → Option ℕ → Result ℕ NoByte → Type 0
TakesRoom old new (Ok byte) = old ≡ option_map suc new
TakesRoom old new (Err reason) = new ≡ old
