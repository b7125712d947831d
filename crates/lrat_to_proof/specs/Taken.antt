-- What a converter did with the lines of a proof.
--     HasTaken old x ls new y      the lines lead from what was converted before to what is converted then
--     HasStopped old x ls line stop new      they were converted, and the line after them was not
use Rattle.std.specs.Prelude.{◌≡◌, ℕ, false, List, Option, Ok}
use Rattle.std.specs.Io.KnownBytes.{Appends}
use Rattle.lrat_rules.specs.Lines.{Line}
use Rattle.proof_bytes.specs.Version2.{text_2}
use Rattle.lrat_to_proof.specs.Converting.{Converted, next, run}
use Rattle.lrat_to_proof.specs.Faults.{IsCause, IsGivenUp, IsRefusal}
use Rattle.lrat_to_proof.specs.Standing.{HasConverted, StopsIn}
use Rattle.lrat_to_proof.specs.declared.converter.Converter.{Converter}
use Rattle.lrat_to_proof.specs.declared.fault.Stop.{Stop}

-- wherever the conversion began, the rules convert the lines after what was converted before
abbrev pub HasTaken : Option (List ℕ) → Converter → List Line → Option (List ℕ) → Converter → Type 0
HasTaken old x ls new y = (width : ℕ) (start : Option (List ℕ)) (c : Converted) →
    HasConverted width start old c x →
    (d : Converted) × (run width c ls ≡ Ok d) × HasConverted width start new d y

-- the lines after c were converted, and then one was rejected, with nothing written of it, or given up
pub record StopsAt (width : ℕ) (start now : Option (List ℕ)) (c : Converted) (ls : List Line)
    (line : Line) (stop : Stop) : Type 0 where
  pub before : Converted
  pub ran : run width c ls ≡ Ok before
  pub is_open : before.held.refuted ≡ false
  pub cause : IsCause stop (next width before line)
  pub written : IsRefusal stop → Appends start now (text_2 before.steps)
  pub begun : IsGivenUp stop → StopsIn start now before (next width before line)

-- so it is wherever the conversion began
abbrev pub HasStopped : Option (List ℕ) → Converter → List Line → Line → Stop →
    Option (List ℕ) → Type 0
HasStopped old x ls line stop new = (width : ℕ) (start : Option (List ℕ)) (c : Converted) →
    HasConverted width start old c x → StopsAt width start new c ls line stop
