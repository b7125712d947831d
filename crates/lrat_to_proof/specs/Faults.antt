-- Faults, by what they come of.
use Rattle.std.specs.Prelude.{◌≡◌, ℕ, Result, Err}
use Rattle.sat_formula.specs.declared.read_fault.ReadFault.TheVariants as texts
use Rattle.lrat_text.specs.Faults.{LratTextFault}
use Rattle.lrat_to_proof.specs.declared.fault.ConvertFault.{ConvertFault}
use Rattle.lrat_to_proof.specs.declared.fault.ConvertFault.TheVariants.{OutOfMemory, Read, Refused, Unread, Write}
use Rattle.lrat_to_proof.specs.declared.fault.GivenUp.{GivenUp}
use Rattle.lrat_to_proof.specs.declared.fault.GivenUp.TheVariants as reasons
use Rattle.lrat_to_proof.specs.declared.fault.LineCause.{LineCause}
use Rattle.lrat_to_proof.specs.declared.fault.Stop.{Stop}
use Rattle.lrat_to_proof.specs.declared.fault.Stop.TheVariants as stops

-- where nothing more can be written
abbrev pub giving_up : GivenUp → ConvertFault
giving_up (reasons.Write cause) = Write cause
giving_up reasons.OutOfMemory = OutOfMemory

-- the fault of the line of that number
abbrev pub in_line : Stop → ℕ → ConvertFault
in_line (stops.Refused cause) line = Refused line cause
in_line (stops.GivenUp why) line = giving_up why

-- where the text gives no line
abbrev pub of_text : LratTextFault → ConvertFault
of_text (texts.Read cause) = Read cause
of_text (texts.Wrong at kind) = Unread at.0 kind
of_text texts.OutOfMemory = OutOfMemory

-- the rules reject it for this cause, unless nothing more can be written
abbrev pub IsCause : {A : Type 0} → Stop → Result A LineCause → Type 0
IsCause (stops.Refused cause) r = r ≡ Err cause
IsCause (stops.GivenUp why) r = Unit {0}

-- nothing more can be written
abbrev pub IsGivenUp : Stop → Type 0
IsGivenUp (stops.Refused cause) = ⊥
IsGivenUp (stops.GivenUp why) = Unit {0}

-- the rules reject the line
abbrev pub IsRefusal : Stop → Type 0
IsRefusal (stops.Refused cause) = Unit {0}
IsRefusal (stops.GivenUp why) = ⊥
