-- What is wrong with a line, by what is wrong with its bytes.
use Rattle.drat_text.specs.declared.fault.DratKind.{DratKind}
use Rattle.drat_text.specs.declared.fault.DratKind.TheVariants as kinds
use Rattle.lrat_text.specs.declared.fault.LineKind.{LineKind}
use Rattle.lrat_text.specs.declared.fault.LineKind.TheVariants.{Malformed, NumberTooLarge, Unfinished}

-- its name among those of a text
abbrev pub line_kind : DratKind → LineKind
line_kind kinds.Malformed = Malformed
line_kind kinds.NumberTooLarge = NumberTooLarge
line_kind kinds.Unfinished = Unfinished
