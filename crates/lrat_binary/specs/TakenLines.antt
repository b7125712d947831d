-- The lines of a proof, which something takes one after the other.
--     said ls      the lines without their numbers
--     TextSays says known o, Begins form known ls      a text of these bytes says this;  it begins with these lines
--     IsExact form n      this is the number of a line, and not the one at which numbers stay
--     CutAfter known ls, IsCut form known ls      a text was read no further than into the line after these
--     FailsAfter form known ls fault      a proof has this fault after these lines
--     TakesLines form known is_done taken refused now r      the lines were taken up to the end of the proof, up to the last that is needed, or up to this fault
--     IsToldForm ids n known form      after a formula of n clauses, the form is the one detected from the bytes
use Rattle.std.specs.Prelude.{◌≡◌, ℕ, ◌-◌, ◌^◌, ◌<◌, Bool, false, List, [], ◌∷◌, ◌++◌, map, Option, IfSome, MatchBool, Result, Ok, Err}
use Rattle.std.specs.Io.KnownBytes.{Consumes}
use Rattle.lrat_rules.specs.Lines.{Line}
use Rattle.lrat_text.specs.Bytes.{IsOpen}
use Rattle.lrat_text.specs.Texts.{Ended, Faulty, Outcome, with_lines}
use Rattle.lrat_text.specs.Texts as texts
use Rattle.sat_formula.specs.declared.read_fault.ReadFault.TheVariants as faults
use Rattle.lrat_text.specs.Faults.{LratTextFault}
use Rattle.lrat_binary.specs.Proofs.{outcome_in}
use Rattle.lrat_binary.specs.Telling.{form_of}
use Rattle.lrat_binary.specs.declared.ids.Ids.{Ids}
use Rattle.lrat_binary.specs.declared.ids.LratForm.{LratForm}
use Rattle.lrat_binary.specs.declared.ids.LratForm.TheVariants.{Binary, Text}
use Rattle.lrat_binary.specs.declared.sink.UntakenLine.{UntakenLine}
use Rattle.lrat_binary.specs.declared.sink.UntakenLine.TheVariants.{Proof, Sink}

-- the lines without their numbers
abbrev pub said : List (ℕ × Line) → List Line
said ls = map (λ x. x.1) ls

-- a text says this; it is that of the bytes, where they are known
pub record TextSays (says : List ℕ → Outcome) (known : Option (List ℕ)) (o : Outcome) : Type 0 where
  pub text : List ℕ
  pub gives : IfSome known (λ bytes. text ≡ bytes)
  pub is : says text ≡ o

-- it begins with these lines
abbrev pub Begins : LratForm → Option (List ℕ) → List (ℕ × Line) → Type 0
Begins form known ls = (later : Outcome) × TextSays (outcome_in form) known (with_lines ls later)

-- the number of a line of text is exact; that of a binary line is the one that the proof's lines have
abbrev pub IsExact : LratForm → ℕ → Type 0
IsExact Text n = n < 2 ^ 64 - 1
IsExact (Binary ids) n = Unit {0}

-- bytes of a text were read that say these lines, each of them whole, and then those of a line that was begun
pub record CutAfter (known : Option (List ℕ)) (ls : List (ℕ × Line)) : Type 0 where
  pub front : List ℕ
  pub begun : List ℕ
  pub left : Option (List ℕ)
  pub consumed : Consumes known left (front ++ begun)
  pub is : texts.outcome_of front ≡ (ls, Ended)
  pub is_open : IsOpen begun

-- so it is with a text
abbrev pub IsCut : LratForm → Option (List ℕ) → List (ℕ × Line) → Type 0
IsCut Text known ls = CutAfter known ls
IsCut (Binary ids) known ls = Unit {0}

-- the next line has this fault; a read that fails and running out of memory can come anywhere
abbrev pub FailsAfter : LratForm → Option (List ℕ) → List (ℕ × Line) → LratTextFault → Type 0
FailsAfter form known ls (faults.Read cause) = Begins form known ls × IsCut form known ls
FailsAfter form known ls (faults.Wrong at kind) =
    TextSays (outcome_in form) known (ls, Faulty at.0 kind) × IsExact form at.0
FailsAfter form known ls faults.OutOfMemory = Begins form known ls

-- lines were taken, and what takes them stands as now: all up to the last that is needed, all of the proof, all before its fault, or all before one that was not taken
abbrev pub TakesLines : {S E : Type 0} → LratForm → Option (List ℕ) → (S → Bool) →
    (List Line → S → Type 0) → (List Line → Line → E → S → Type 0) → S →
    Result (Unit {0}) (UntakenLine E) → Type 0
TakesLines form known is_done taken refused now (Ok done) =
    (lines : List (ℕ × Line)) × taken (said lines) now
    × MatchBool (is_done now) (Begins form known lines)
    (TextSays (outcome_in form) known (lines, Ended))
TakesLines form known is_done taken refused now (Err (Proof fault)) =
    (lines : List (ℕ × Line)) × taken (said lines) now × (is_done now ≡ false)
    × FailsAfter form known lines fault
TakesLines form known is_done taken refused now (Err (Sink number fault)) =
    (lines : List (ℕ × Line)) × (line : Line) × refused (said lines) line fault now
    × Begins form known (lines ++ (number, line) ∷ []) × IsExact form number

-- the form of a proof, where its bytes are known: the detected one, with the ids as they are given, where they are
abbrev pub IsToldForm : Option Ids → ℕ → Option (List ℕ) → LratForm → Type 0
IsToldForm ids n known form = IfSome known (λ bytes. form ≡ form_of ids n bytes)
