-- Taking the bytes of a line.
use Rattle.std.specs.Prelude.{ℕ, Bool, true, false, List, [], ◌∷◌, ◌++◌, Option, unwrap_or, Result, Ok, Err}
use Rattle.std.specs.Io.KnownBytes.{Consumes, IsAtEnd}
use Rattle.sat_formula.specs.declared.source.Source.{Source}
use Rattle.sat_formula.specs.Source.{unread, room_of, IsStopped}
use Rattle.lrat_text.specs.declared.fault.LineKind.{LineKind}
use Rattle.sat_formula.specs.declared.stop.Stop.{Stop}
use Rattle.sat_formula.specs.declared.stop.Stop.TheVariants as stops
use Rattle.lrat_text.specs.declared.lines.Lines.{Lines}
use Rattle.lrat_text.specs.Bytes.{IsOpen}

-- the bytes that were not taken, where they are known
abbrev pub unread_lines : {R : Type 0} → (R → Option (List ℕ)) → Lines R → Option (List ℕ)
unread_lines remaining t = unread remaining t.source

-- how many bytes it can still give
abbrev pub room_in : {R : Type 0} → Lines R → ℕ
room_in t = unwrap_or (room_of t.source) 0

-- from old to new a line was taken with its LF; the last one, which has none; or a part of one, where a read failed
abbrev pub HoldsLine : {R : Type 0} → Option (List ℕ) → Option (List ℕ) → Source R → List ℕ →
    Result Bool (Stop LineKind) → Type 0
HoldsLine old new source line (Ok true) = IsOpen line × Consumes old new (line ++ 10 ∷ [])
HoldsLine old new source line (Ok false) = IsOpen line × Consumes old new line × IsAtEnd new
HoldsLine old new source line (Err stops.End) = ⊥
HoldsLine old new source line (Err stops.Read) = IsOpen line × Consumes old new line
    × IsStopped source
HoldsLine old new source line (Err (stops.Wrong kind)) = ⊥
HoldsLine old new source line (Err stops.OutOfMemory) = Unit {0}
