-- Files that get their names once they are whole.
--     Gives old new place bytes      to those that were renamed to places so far, a file of these bytes is added
--     place_of places name      the place of an output's name, where there is one
--     begun name      nothing, where there is a name
--     written_in contents out      what a buffered writer holds, where there is one
use Rattle.std.specs.Prelude.{◌≡◌, ℕ, ◌++◌, ◌∷◌, [], List, Option, Some, None, option_and_then, option_map}
use Rattle.std.specs.Io.Buffered.{writer_contents}
use Rattle.std.specs.declared.io.buffered.BufWriter.{BufWriter}

-- each place, and the bytes of the file that was renamed to it, in their order; none is added where there is no place, and nothing is said of unknown bytes
abbrev pub Gives : Option (List (List ℕ × List ℕ)) → Option (List (List ℕ × List ℕ)) → Option (List ℕ) → Option (List ℕ) → Type 0
Gives old new None bytes = new ≡ old
Gives old new (Some place) None = Unit {0}
Gives old new (Some place) (Some bytes) = new ≡ option_map (λ named. named ++ (place, bytes) ∷ []) old

-- by the places of names
abbrev pub place_of : (List ℕ → Option (List ℕ)) → Option (List ℕ) → Option (List ℕ)
place_of places name = option_and_then places name

-- what an output of this name holds at first
abbrev pub begun : Option (List ℕ) → Option (List ℕ)
begun name = option_map (λ name. []) name

-- by what a writer below the buffer holds
abbrev pub written_in : {F A : Type 0} → (F → Option (List ℕ)) → Option (BufWriter F A) → Option (List ℕ)
written_in contents out = option_and_then (writer_contents contents) out
