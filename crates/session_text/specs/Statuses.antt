-- The words of statuses.
--     word_of s      the word
--     is_spelled s read b, turns s read b      the next byte of a word, of which this many were read;  `UN` becomes `UNKNOWN`
use Rattle.std.specs.Prelude.{ℕ, Bool, false, ◌&&◌, List, length, slice_index, codes, nat_lt, ◌==◌}
use Rattle.session_text.specs.declared.line.Status.{Status}
use Rattle.session_text.specs.declared.line.Status.TheVariants.{Satisfiable, Unknown, Unsatisfiable}

-- the word of a status
abbrev pub word_of : Status → List ℕ
word_of Satisfiable = codes "SATISFIABLE"
word_of Unsatisfiable = codes "UNSATISFIABLE"
word_of Unknown = codes "UNKNOWN"

-- the byte is the next one of the word, of which this many were read
abbrev pub is_spelled : Status → ℕ → ℕ → Bool
is_spelled status read b =
    nat_lt read (length (word_of status)) && (slice_index (word_of status) read == b)

-- `UN` was read, and the byte is a `K`: the word is `UNKNOWN`
abbrev pub turns : Status → ℕ → ℕ → Bool
turns Satisfiable read b = false
turns Unsatisfiable read b = read == 2 && (b == 75)
turns Unknown read b = false
