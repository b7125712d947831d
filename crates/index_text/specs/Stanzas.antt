-- The stanzas of an index: a stanza is fields, and ends at an empty line or with the text.
--     stanzas_of text      the stanzas, each with its fields, or the first fault and its line
use Rattle.std.specs.Prelude.{ℕ, List, [], ◌∷◌, ◌++◌, Result, Ok, Err, if◌then◌else◌}
use Rattle.sat_formula.specs.Lines.{has_bytes}
use Rattle.index_text.specs.declared.fault.IndexKind.{IndexKind}
use Rattle.index_text.specs.declared.fault.IndexKind.TheVariants.{Unfinished}
use Rattle.index_text.specs.Entries.{entries_of, line_after}
use Rattle.index_text.specs.Fields.{named_at}
use Rattle.index_text.specs.Relations.{◌>>=◌}

-- a field, and the number of its line
pub record FieldSaid : Type 0 where
  pub line : ℕ
  pub name : List ℕ
  pub value : List ℕ

-- stanzas, or a fault and its line
pub data Outcome : Type 0 where
  Stanzas : List (List FieldSaid) → Outcome
  Faulty : ℕ → IndexKind → Outcome

-- what was read: the stanzas, and the fields of the one after them
pub record SoFarSaid : Type 0 where
  pub stanzas : List (List FieldSaid)
  pub fields : List FieldSaid

-- before the first entry
abbrev pub nothing : SoFarSaid
nothing = record { stanzas = []; fields = [] }

-- one more field
abbrev pub with_field : SoFarSaid → FieldSaid → SoFarSaid
with_field s f = record { stanzas = s.stanzas; fields = s.fields ++ f ∷ [] }

-- one more stanza of these fields, if there are any
abbrev pub with_stanza : List (List FieldSaid) → List FieldSaid → List (List FieldSaid)
with_stanza stanzas [] = stanzas
with_stanza stanzas (f ∷ fs) = stanzas ++ (f ∷ fs) ∷ []

-- the stanza ends
abbrev pub closed : SoFarSaid → SoFarSaid
closed s = record { stanzas = with_stanza s.stanzas s.fields; fields = [] }

-- an entry on this line: a field, or an empty line, which ends a stanza
abbrev pub entry_taken : ℕ → SoFarSaid → List ℕ → Result SoFarSaid IndexKind
entry_taken line s entry =
    if has_bytes entry
    then (named_at entry >>= λ f. Ok (with_field s (record { line = line; name = f.0; value = f.1 })))
    else Ok (closed s)

-- what an entry gave; `next` continues from there
abbrev pub entry_then : ℕ → Result SoFarSaid IndexKind → (SoFarSaid → Outcome) → Outcome
entry_then line (Ok s) next = next s
entry_then line (Err kind) next = Faulty line kind

-- the entries from this line on; the last one is what follows the last LF: nothing
abbrev pub stanzas_from : ℕ → SoFarSaid → List (List ℕ) → Outcome
stanzas_from line s [] = Stanzas (closed s).stanzas
stanzas_from line s (entry ∷ []) =
    if has_bytes entry then Faulty line Unfinished else Stanzas (closed s).stanzas
stanzas_from line s (entry ∷ more ∷ entries) = entry_then line (entry_taken line s entry)
    (λ s. stanzas_from (line_after line entry) s (more ∷ entries))

-- the whole text; its lines count from 1
abbrev pub stanzas_of : List ℕ → Outcome
stanzas_of text = stanzas_from 1 nothing (entries_of text)
