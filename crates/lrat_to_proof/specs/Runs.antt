-- Conversions of the lines of a proof. `says` is what the proof's bytes say, and `ids` the encoding of ids in binary lines, where it is given.
--     proof_says ids n bytes      after a formula of n clauses, in the form detected from the bytes
--     IsStopped says known width c start now r      the lines after c are converted up to one that is rejected, or that can't be read, or as far as they could be written
--     IsProofRun, IsRun      the conversion of a proof after a formula, and after a formula's text
--     RunTellsLie cnf r told      this is reported of the formula's header
use Rattle.std.specs.Prelude.{◌≡◌, ℕ, false, List, [], ◌∷◌, ◌++◌, length, MatchBool, Option, None, Result, Ok, Err}
use Rattle.std.specs.Io.KnownBytes.{Appends}
use Rattle.std.specs.Option.{option_map}
use Rattle.sat_formula.specs.declared.counts.LyingHeader.{LyingHeader}
use Rattle.sat_formula.specs.Lines as dimacs
use Rattle.sat_formula.specs.Outcome.{Ended}
use Rattle.sat_formula.specs.Whole.{FailsAfter, IsOutcome}
use Rattle.sat_formula.specs.Lies.{IsLie}
use Rattle.lrat_rules.specs.Lines.{Line}
use Rattle.lrat_text.specs.Texts as texts
use Rattle.lrat_text.specs.Texts.{Outcome}
use Rattle.lrat_text.specs.declared.fault.LineKind.{LineKind}
use Rattle.lrat_binary.specs.Proofs.{BeginsWith, SaysAll, outcome_in}
use Rattle.lrat_binary.specs.Telling.{form_of}
use Rattle.lrat_binary.specs.TakenLines.{said}
use Rattle.lrat_binary.specs.declared.ids.Ids.{Ids}
use Rattle.proof_bytes.specs.declared.format.Format.TheVariants as formats
use Rattle.proof_bytes.specs.Texts.{AreSteps}
use Rattle.proof_bytes.specs.Version2.{text_2}
use Rattle.lrat_to_proof.specs.Converting.{Converted, begun, next, run, whole}
use Rattle.lrat_to_proof.specs.Standing.{HasBegun, HasConverted}
use Rattle.lrat_to_proof.specs.Conversions.{conversion_of}
use Rattle.lrat_to_proof.specs.declared.converter.Converter.{Converter}
use Rattle.lrat_to_proof.specs.declared.fault.ConvertFault.{ConvertFault}
use Rattle.lrat_to_proof.specs.declared.fault.ConvertFault.TheVariants.{Formula, OutOfMemory, Read, Refused, Unread, Write}
use Rattle.lrat_to_proof.specs.declared.fault.LineCause.{LineCause}
use Rattle.lrat_to_proof.specs.declared.conversion.Conversion.{Conversion}

-- the lines of a proof after a formula of n clauses
abbrev pub proof_says : Option Ids → ℕ → List ℕ → Outcome
proof_says ids n bytes = outcome_in (form_of ids n bytes) bytes

-- these lines of the proof after c were converted, and lead to d: all of them, or those up to the one that refutes the formula
pub record Leads (says : List ℕ → Outcome) (known : Option (List ℕ)) (width : ℕ) (c : Converted) (lines : List (ℕ × Line))
    (d : Converted) : Type 0 where
  pub text : MatchBool d.held.refuted (BeginsWith says known lines) (SaysAll says known lines texts.Ended)
  pub ran : run width c (said lines) ≡ Ok d

-- lines were converted, and the next one, of this number, is rejected; the output holds the steps of those before
pub record IsRefused (says : List ℕ → Outcome) (known : Option (List ℕ)) (width : ℕ) (c : Converted)
    (start now : Option (List ℕ)) (number : ℕ) (cause : LineCause) : Type 0 where
  pub lines : List (ℕ × Line)
  pub line : Line
  pub before : Converted
  pub text : BeginsWith says known (lines ++ (number, line) ∷ [])
  pub ran : run width c (said lines) ≡ Ok before
  pub is_open : before.held.refuted ≡ false
  pub refused : next width before line ≡ Err cause
  pub written : Appends start now (text_2 before.steps)

-- lines were converted, and the next one, of this number, can't be read; the output holds their steps
pub record IsUnread (says : List ℕ → Outcome) (known : Option (List ℕ)) (width : ℕ) (c : Converted)
    (start now : Option (List ℕ)) (number : ℕ) (kind : LineKind) : Type 0 where
  pub lines : List (ℕ × Line)
  pub before : Converted
  pub text : SaysAll says known lines (texts.Faulty number kind)
  pub ran : run width c (said lines) ≡ Ok before
  pub is_open : before.held.refuted ≡ false
  pub written : Appends start now (text_2 before.steps)

-- lines were converted, with which the proof begins, and this holds of what they lead to
pub record IsUpTo (says : List ℕ → Outcome) (known : Option (List ℕ)) (width : ℕ) (c : Converted)
    (P : Converted → Type 0) : Type 0 where
  pub lines : List (ℕ × Line)
  pub after : Converted
  pub text : BeginsWith says known lines
  pub ran : run width c (said lines) ≡ Ok after
  pub written : P after

-- lines were converted, and no more of the proof came; the output holds their steps
abbrev pub IsCut : (List ℕ → Outcome) → Option (List ℕ) → ℕ → Converted → Option (List ℕ) →
    Option (List ℕ) → Type 0
IsCut says known width c start now =
    IsUpTo says known width c (λ d. Appends start now (text_2 d.steps))

-- lines can be converted, and the output holds a beginning of the bytes of their steps and of the end
abbrev pub IsBegun : (List ℕ → Outcome) → Option (List ℕ) → ℕ → Converted → Option (List ℕ) →
    Option (List ℕ) → Type 0
IsBegun says known width c start now = IsUpTo says known width c (λ d. HasBegun start now (whole d))

-- a fault of the lines after c; a read or a write that fails and running out of memory can come anywhere
abbrev pub IsStopped : (List ℕ → Outcome) → Option (List ℕ) → ℕ → Converted → Option (List ℕ) →
    Option (List ℕ) → ConvertFault → Type 0
IsStopped says known width c start now (Refused number cause) =
    IsRefused says known width c start now number cause
IsStopped says known width c start now (Unread number kind) =
    IsUnread says known width c start now number kind
IsStopped says known width c start now (Read cause) = IsCut says known width c start now
IsStopped says known width c start now (Write cause) = IsBegun says known width c start now
IsStopped says known width c start now OutOfMemory = IsBegun says known width c start now
IsStopped says known width c start now (Formula fault) = ⊥

-- what a converter answers to the lines of a proof after c
abbrev pub ConvertsLines : (List ℕ → Outcome) → Option (List ℕ) → ℕ → Converted →
    Option (List ℕ) → Option (List ℕ) → Converter → Result (Unit {0}) ConvertFault → Type 0
ConvertsLines says known width c start now x (Ok done) =
    (lines : List (ℕ × Line)) × (d : Converted) × Leads says known width c lines d
    × HasConverted width start now d x
ConvertsLines says known width c start now x (Err fault) = IsStopped says known width c start now fault

-- the proof is converted: what was written is the bytes of all its steps, which can be read again
pub record IsConverted (ids : Option Ids) (known : Option (List ℕ)) (width : ℕ)
    (formula : List (List ℕ)) (old new : Option (List ℕ)) (conversion : Conversion) : Type 0 where
  pub lines : List (ℕ × Line)
  pub end : Converted
  pub leads : Leads (proof_says ids (length formula)) known width (begun width formula) lines end
  pub answer : conversion ≡ conversion_of end.held.refuted
  pub written : Appends old new (text_2 (whole end))
  pub fits : AreSteps (formats.Bytes 64) (whole end)

-- by the answer
abbrev pub IsProofRun : Option Ids → Option (List ℕ) → ℕ → List (List ℕ) → Option (List ℕ) →
    Option (List ℕ) → Result Conversion ConvertFault → Type 0
IsProofRun ids known width formula old new (Ok conversion) =
    IsConverted ids known width formula old new conversion
IsProofRun ids known width formula old new (Err fault) =
    IsStopped (proof_says ids (length formula)) known width (begun width formula) old new fault

-- the whole text is this formula, after which the proof was converted
pub record IsAfterFormula (ids : Option Ids) (cnf known : Option (List ℕ)) (width : ℕ)
    (old new : Option (List ℕ)) (r : Result Conversion ConvertFault) : Type 0 where
  pub formula : List (List ℕ)
  pub whole : IsOutcome (option_map dimacs.outcome_of cnf) (formula, Ended)
  pub run : IsProofRun ids known width formula old new r

-- over both texts: a formula that was not read whole is answered, with nothing written, and else the proof's conversion
abbrev pub IsRun : Option Ids → Option (List ℕ) → Option (List ℕ) → ℕ → Option (List ℕ) →
    Option (List ℕ) → Result Conversion ConvertFault → Type 0
IsRun ids cnf known width old new (Err (Formula fault)) =
    (new ≡ old)
    × ((clauses : List (List ℕ)) × FailsAfter (option_map dimacs.outcome_of cnf) clauses fault)
IsRun ids cnf known width old new r = IsAfterFormula ids cnf known width old new r

-- the mismatch of the header, if the formula was read whole; else nothing
abbrev pub RunTellsLie : Option (List ℕ) → Result Conversion ConvertFault → Option LyingHeader →
    Type 0
RunTellsLie cnf (Err (Formula fault)) told = told ≡ None
RunTellsLie cnf r told = IsLie cnf told
