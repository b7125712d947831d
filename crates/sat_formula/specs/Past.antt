-- What came before in a text: whether a number or a header, the header's counts, and the line on which the last clause ends.
use Rattle.std.specs.Prelude.{ℕ, false, true, Option, Some, None}
use Rattle.sat_formula.specs.declared.counts.Counts.{Counts}
use Rattle.sat_formula.specs.declared.past.Past.{Past}
use Rattle.sat_formula.specs.declared.word.Token.{Token}
use Rattle.sat_formula.specs.declared.word.Token.TheVariants as tokens

-- at the start; 0 is the line of no clause
abbrev pub nothing_past : Past
nothing_past = record { seen = false; header = None; clause_line = 0 }

-- a header ended, with these counts
abbrev pub with_header : Past → Counts → Past
with_header past counts = record past { seen = true; header = Some counts }

-- a number ended on this line
abbrev pub past_after : Past → Token → ℕ → Past
past_after past tokens.Zero line = record past { seen = true; clause_line = line }
past_after past (tokens.Literal code) line = record past { seen = true }
past_after past (tokens.Wrong kind) line = past
