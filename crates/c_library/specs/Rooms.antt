-- Texts that a call puts into the rooms of its caller.
--     IsPlaced text old new placed      a text was put into a room, as much of it as there is room for
--     IsNothing old new placed      no text was put
use Rattle.std.specs.Prelude.{◌≡◌, ℕ, List, ◌++◌, length, min, take, drop}
use Rattle.c_library.specs.declared.room.Placed.{Placed}

-- the beginning of the text stands at the start of the room, and what is behind it is as it was
pub record IsPlaced (text old new : List ℕ) (placed : Placed) : Type 0 where
  pub len : placed.len ≡ min (length text) (length old)
  pub whole : placed.whole ≡ length text
  pub room : new ≡ take placed.len text ++ drop placed.len old

-- the room is as it was
pub record IsNothing (old new : List ℕ) (placed : Placed) : Type 0 where
  pub len : placed.len ≡ 0
  pub whole : placed.whole ≡ 0
  pub room : new ≡ old
