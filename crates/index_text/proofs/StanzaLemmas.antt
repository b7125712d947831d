-- Entries, one after the other.
use Rattle.std.proofs.Common.{◌≡◌, ℕ, ◌<◌, Bool, true, false, cond, List, [], ◌∷◌, length, ◌++◌, Result, Ok, Err, Vec, refl, sym, ap, subst, ◌∙◌, arith}
use Rattle.std.proofs.lemmas.List.{map-append}
use Rattle.std.specs.Global.{Global}
use Rattle.sat_formula.specs.declared.read_fault.LineNumber.{LineNumber}
use Rattle.sat_formula.specs.declared.read_fault.UntakenByte.{UntakenByte}
use Rattle.sat_formula.specs.declared.read_fault.UntakenByte.TheVariants as untaken
use Rattle.index_text.specs.declared.field.Field.{Field}
use Rattle.index_text.specs.declared.stanzas.SoFar.{SoFar}
use Rattle.index_text.specs.Taking.{IsOutcome, TakesEntry, field_seen, fields_seen, stanzas_seen}
use Rattle.std.specs.List.{onto_first}
use Rattle.index_text.specs.declared.fault.IndexKind.{IndexKind}
use Rattle.index_text.specs.Entries.{ends_entry, entries_of, line_after}
use Rattle.index_text.specs.Stanzas.{Faulty, Outcome, SoFarSaid, entry_taken, entry_then, stanzas_from}

some_onto : (ends : Bool) (b : ℕ) (entries : List (List ℕ)) → 0 < length (cond ends ([] ∷ entries) (onto_first b entries))
some_onto true b entries = omega arith
some_onto false b [] = omega arith
some_onto false b (e ∷ es) = omega arith

-- a text has an entry
pub some_entry : (text : List ℕ) → 0 < length (entries_of text)
some_entry [] = omega arith
some_entry (b ∷ bs) = some_onto (ends_entry b bs) b (entries_of bs)

-- an entry after which another one comes is not the last
entry_inside : (line : ℕ) (s : SoFarSaid) (entry : List ℕ) (entries : List (List ℕ)) → 0 < length entries →
    stanzas_from line s (entry ∷ entries) ≡ entry_then line (entry_taken line s entry) (λ s. stanzas_from (line_after line entry) s entries)
entry_inside line s entry [] some = absurd (omega (arith, some))
entry_inside line s entry (e ∷ es) some = refl

pub taken_on : (line after : ℕ) (s new : SoFarSaid) (text entry next : List ℕ) → entries_of text ≡ entry ∷ entries_of next → entry_taken line s entry ≡ Ok new →
    after ≡ line_after line entry → stanzas_from line s (entries_of text) ≡ stanzas_from after new (entries_of next)
taken_on line after s new text entry next e ok same =
    ap (stanzas_from line s) e ∙ entry_inside line s entry (entries_of next) (some_entry next)
    ∙ ap (λ (r : Result SoFarSaid IndexKind). entry_then line r (λ s. stanzas_from (line_after line entry) s (entries_of next))) ok
    ∙ ap (λ (n : ℕ). stanzas_from n new (entries_of next)) (sym same)

pub taken_ill : (line : ℕ) (s : SoFarSaid) (text entry next : List ℕ) (kind : IndexKind) → entries_of text ≡ entry ∷ entries_of next → entry_taken line s entry ≡ Err kind →
    stanzas_from line s (entries_of text) ≡ Faulty line kind
taken_ill line s text entry next kind e fault =
    ap (stanzas_from line s) e ∙ entry_inside line s entry (entries_of next) (some_entry next)
    ∙ ap (λ (r : Result SoFarSaid IndexKind). entry_then line r (λ s. stanzas_from (line_after line entry) s (entries_of next))) fault

-- a fault of an entry is one of the text
pub fails_placed : (whole : Outcome) (line : ℕ) (s : SoFarSaid) (new : SoFar) (text entry next : List ℕ) (e : UntakenByte LineNumber IndexKind) →
    whole ≡ stanzas_from line s (entries_of text) → entries_of text ≡ entry ∷ entries_of next → TakesEntry line (entry_taken line s entry) new (Err e) → IsOutcome whole (Err e)
fails_placed whole line s new text entry next (untaken.Wrong at kind) w e h = w ∙ taken_ill line s text entry next kind e h.1 ∙ ap (λ (n : ℕ). Faulty n kind) (sym h.0)
fails_placed whole line s new text entry next untaken.OutOfMemory w e h = tt

-- what the last entry says is what the text says
pub ends_as : (whole : Outcome) (line : ℕ) (s : SoFarSaid) (text entry : List ℕ) (r : Result (Vec (Vec Field Global) Global) (UntakenByte LineNumber IndexKind)) →
    whole ≡ stanzas_from line s (entries_of text) → entries_of text ≡ entry ∷ [] → IsOutcome (stanzas_from line s (entry ∷ [])) r → IsOutcome whole r
ends_as whole line s text entry r w e h = subst (λ (o : Outcome). IsOutcome o r) (sym (w ∙ ap (stanzas_from line s) e)) h

-- one more field, one more stanza
pub fields-more : (old new : List Field) (x : Field) → new ≡ old ++ x ∷ [] → fields_seen new ≡ fields_seen old ++ field_seen x ∷ []
fields-more old new x e = ap fields_seen e ∙ map-append field_seen old (x ∷ [])

pub stanzas-more : (old new : List (Vec Field Global)) (x : Vec Field Global) → new ≡ old ++ x ∷ [] → stanzas_seen new ≡ stanzas_seen old ++ fields_seen x.items ∷ []
stanzas-more old new x e = ap stanzas_seen e ∙ map-append (λ (s : Vec Field Global). fields_seen s.items) old (x ∷ [])
