-- What a text says: its lines, and how it ends.
--     Line      a line
--     Outcome      the lines in their order, up to the end or the first fault
use Rattle.std.specs.Prelude.{ℕ, List, ◌∷◌}
use Rattle.session_text.specs.declared.fault.TextKind.{TextKind}
use Rattle.session_text.specs.declared.line.LineKind.{LineKind}
use Rattle.session_text.specs.Content.{Content}

-- a line of this kind, in which this stands
pub record Line : Type 0 where
  pub kind : LineKind
  pub content : Content

-- well, or with a fault, on this line
pub data Ending : Type 0 where
  Ended : Ending
  Faulty : (line : ℕ) → TextKind → Ending

-- the lines before it, and the ending
abbrev pub Outcome : Type 0
Outcome = List Line × Ending

-- an outcome behind this line
abbrev pub with_line : Line → Outcome → Outcome
with_line l o = (l ∷ o.0, o.1)
