-- What a session asks and answers, where the interaction is a text of its own.
use Rattle.std.specs.Prelude.{◌≡◌, List}
use Rattle.session_check.specs.Interactions.{interaction_of}
use Rattle.session_check.specs.Lines.{ArePairs, Pair, joined_in, told_in}

-- the lines of the interaction ask and answer, and not the proof's
abbrev pub ToldIsSaid : Type 0
ToldIsSaid = (pairs : List Pair) → ArePairs pairs →
    interaction_of (joined_in pairs) ≡ interaction_of (told_in pairs)
