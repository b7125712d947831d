-- Why reading stops.
use Rattle.sat_formula.specs.declared.source.NoByte.{NoByte}
use Rattle.sat_formula.specs.declared.source.NoByte.TheVariants as reasons
use Rattle.sat_formula.specs.declared.stop.Stop.{Stop}
use Rattle.sat_formula.specs.declared.stop.Stop.TheVariants as stops

-- the stop of a source that gives no byte
abbrev pub stop_of : {K : Type 0} → NoByte → Stop K
stop_of reasons.End = stops.End
stop_of reasons.Read = stops.Read
stop_of reasons.OutOfMemory = stops.OutOfMemory
