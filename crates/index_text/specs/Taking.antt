-- What the reader of stanzas answers.
--     field_seen, stanzas_seen, so_far_seen      what was read, with bytes in place of references to them
--     TakesEntry line said new r      an entry on this line was taken, which says this
--     IsOutcome o r      what the text says
use Rattle.std.specs.Prelude.{◌≡◌, ℕ, List, map, Result, Ok, Err, Vec}
use Rattle.std.specs.Global.{Global}
use Rattle.sat_formula.specs.declared.read_fault.LineNumber.{LineNumber}
use Rattle.sat_formula.specs.declared.read_fault.UntakenByte.{UntakenByte}
use Rattle.sat_formula.specs.declared.read_fault.UntakenByte.TheVariants as untaken
use Rattle.index_text.specs.declared.fault.IndexKind.{IndexKind}
use Rattle.index_text.specs.declared.field.Field.{Field}
use Rattle.index_text.specs.declared.stanzas.SoFar.{SoFar}
use Rattle.index_text.specs.Stanzas.{FieldSaid, Faulty, Outcome, SoFarSaid, Stanzas}

-- a field
abbrev pub field_seen : Field → FieldSaid
field_seen f = record { line = f.line; name = f.name.now; value = f.value.now }

-- the fields of a stanza
abbrev pub fields_seen : List Field → List FieldSaid
fields_seen fs = map field_seen fs

-- stanzas
abbrev pub stanzas_seen : List (Vec Field Global) → List (List FieldSaid)
stanzas_seen ss = map (λ s. fields_seen s.items) ss

-- what was read
abbrev pub so_far_seen : SoFar → SoFarSaid
so_far_seen s = record { stanzas = stanzas_seen s.stanzas.items; fields = fields_seen s.fields.items }

-- an entry on this line was taken, or has a fault, or memory ran out
abbrev pub TakesEntry : ℕ → Result SoFarSaid IndexKind → SoFar → Result (Unit {0}) (UntakenByte LineNumber IndexKind) → Type 0
TakesEntry line said new (Ok _) = said ≡ Ok (so_far_seen new)
TakesEntry line said new (Err (untaken.Wrong at kind)) = (at.0 ≡ line) × (said ≡ Err kind)
TakesEntry line said new (Err untaken.OutOfMemory) = Unit {0}

-- the text says what was answered, unless memory ran out
abbrev pub IsOutcome : Outcome → Result (Vec (Vec Field Global) Global) (UntakenByte LineNumber IndexKind) → Type 0
IsOutcome o (Ok v) = o ≡ Stanzas (stanzas_seen v.items)
IsOutcome o (Err (untaken.Wrong at kind)) = o ≡ Faulty at.0 kind
IsOutcome o (Err untaken.OutOfMemory) = Unit {0}
