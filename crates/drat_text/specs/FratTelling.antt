-- Whether a proof is detected as FRAT, from its first bytes.
use Rattle.std.specs.Prelude.{◌≡◌, ℕ, Bool, List, Option, Result, Ok, Err, IfSome}
use Rattle.std.specs.Io.KnownBytes.{Keeps}
use Rattle.sat_formula.specs.declared.source.Source.{Source}
use Rattle.sat_formula.specs.Source.{IsErrorOf}
use Rattle.sat_formula.specs.declared.read_fault.ReadFault.TheVariants as faults
use Rattle.drat_text.specs.Faults.{DratFault}
use Rattle.drat_text.specs.FratBytes.{is_frat}

-- whether the bytes are FRAT, none of which was taken
abbrev pub TellsFrat : {R : Type 0} → Option (List ℕ) → Option (List ℕ) → Source R →
    Result Bool DratFault → Type 0
TellsFrat old new source (Ok answer) =
    Keeps old new × IfSome old (λ bytes. answer ≡ is_frat bytes)
TellsFrat old new source (Err (faults.Read e)) = Keeps old new × IsErrorOf source e
TellsFrat old new source (Err (faults.Wrong at kind)) = ⊥
TellsFrat old new source (Err faults.OutOfMemory) = Unit {0}
