-- How conversions end.
use Rattle.std.specs.Prelude.{Bool, true, false}
use Rattle.lrat_to_proof.specs.declared.conversion.Conversion.{Conversion}
use Rattle.lrat_to_proof.specs.declared.conversion.Conversion.TheVariants.{Open, Refuted}

-- by whether the empty clause or two opposite units came
abbrev pub conversion_of : Bool → Conversion
conversion_of true = Refuted
conversion_of false = Open

-- the proof derives the empty clause
abbrev pub shows_unsat : Conversion → Bool
shows_unsat Refuted = true
shows_unsat Open = false
