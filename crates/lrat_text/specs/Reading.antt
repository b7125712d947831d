-- What the calls that read a line answer.
use Rattle.std.specs.Prelude.{◌≡◌, Option, Result, Ok, Err, map}
use Rattle.std.specs.Option.{option_map}
use Rattle.lrat_rules.specs.Lines.{Line, adds, deletes}
use Rattle.lrat_text.specs.declared.fault.LineKind.{LineKind}
use Rattle.sat_formula.specs.declared.stop.Stop.{Stop}
use Rattle.sat_formula.specs.declared.stop.Stop.TheVariants as stops
use Rattle.lrat_text.specs.declared.row.Head.{Head}
use Rattle.lrat_text.specs.declared.row.Head.TheVariants as heads
use Rattle.lrat_text.specs.declared.row.Row.{Row}
use Rattle.lrat_text.specs.Grammar.{hint_of}

-- the words say what was answered, seen so, unless memory ran out
abbrev pub ReadsAs : {X A : Type 0} → (X → A) → Result A LineKind → Result X (Stop LineKind) → Type 0
ReadsAs seen said (Ok x) = said ≡ Ok (seen x)
ReadsAs seen said (Err stops.End) = ⊥
ReadsAs seen said (Err stops.Read) = ⊥
ReadsAs seen said (Err (stops.Wrong kind)) = said ≡ Err kind
ReadsAs seen said (Err stops.OutOfMemory) = Unit {0}

-- a line by its head and the lists that were read
abbrev pub line_of : Row → Head → Line
line_of row (heads.Add id) = adds id row.lits.items (map hint_of row.hints.items)
line_of row heads.Delete = deletes row.ids.items

-- the line of a head, where there is one, and the lists that were read
abbrev pub line_if : Row → Option Head → Option Line
line_if row head = option_map (line_of row) head
