-- What parts of a box and a slot own: the block of the value, if there is one.
--     holds token R p state      what is owned at a pointer to the type R, with the right to free its block
use Rattle.std.specs.Prelude.{Option, Some, None}
use mir.Syntax.{Ty}
use base.Fml.{Fml, ftrue}
use denote.RattleType.{RattleType}
use denote.RawPtr.{Ptr}
use Rattle.std.specs.Box.Ownership.{box_owns}

-- the block of the value, if there is one
abbrev pub holds : (Ty → Ptr → Fml) → (R : RattleType) → Ptr → Option R.Denot → Fml
holds t R p None = ftrue
holds t R p (Some s) = box_owns t R p s
