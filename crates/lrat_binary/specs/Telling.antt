-- The form of a proof, detected from its first bytes. No verdict relies on it: whatever is detected, the lines that are read so are judged.
--     form_of ids n bytes      of a proof after a formula of n clauses; the form of its ids is detected where it is not given
--     told_ids n first      doubled, where every id is even, and no line has the id n + 1
use Rattle.std.specs.Prelude.{ℕ, ◌+◌, ◌-◌, ◌/◌, ◌%◌, ◌^◌, min, Bool, true, false, not, ◌&&◌, ◌||◌, ◌==◌, nat_lt, if◌then◌else◌, List, [], ◌∷◌, take, Option, Some, None}
use Rattle.std.specs.List.{list_all}
use Rattle.drat_text.specs.Bytes.{is_text_byte}
use Rattle.lrat_binary.specs.declared.ids.Ids.{Ids}
use Rattle.lrat_binary.specs.declared.ids.Ids.TheVariants.{Plain, Doubled}
use Rattle.lrat_binary.specs.declared.ids.LratForm.{LratForm}
use Rattle.lrat_binary.specs.declared.ids.LratForm.TheVariants.{Text, Binary}
use Rattle.lrat_binary.specs.declared.telling.Seen.{Seen}
use Rattle.lrat_binary.specs.declared.telling.Seen.TheVariants.{Later, Told}
use Rattle.lrat_binary.specs.declared.telling.Sight.{Sight}
use Rattle.lrat_binary.specs.declared.telling.Sight.TheVariants.{Letter, Id, Lit, Hint, Deleted}
use Rattle.lrat_binary.specs.Places.{letter_a, letter_d}

-- the first byte is one with which a binary line begins
abbrev pub begins_as_binary : List ℕ → Bool
begins_as_binary [] = false
begins_as_binary (b ∷ bs) = b == letter_a || b == letter_d

-- it begins with an `a`, or with a `d` and has a byte that no text has
abbrev pub is_binary : List ℕ → Bool
is_binary [] = false
is_binary (b ∷ bs) =
    b == letter_a || ((b == letter_d) && not (list_all is_text_byte (b ∷ bs)))

-- ---- the ids

-- the next id after those of this many clauses
abbrev pub next_id : ℕ → ℕ
next_id n = min (n + 1) (2 ^ 64 - 1)

-- a line's letter; after another byte nothing more is looked at
abbrev pub letter_seen : ℕ → ℕ → Seen
letter_seen next b =
    if b == letter_a then Later (Id true next true)
    else (if b == letter_d then Later (Deleted true true) else Told true)

-- a byte of a line's id, which is compared with what is left of the next one
abbrev pub id_seen : ℕ → Bool → ℕ → Seen
id_seen left same b =
    let is = same && (left % 128 == b % 128) in
    if nat_lt b 128 then (if is && (left / 128 == 0) then Told false else Later (Lit true))
    else Later (Id false (left / 128) is)

-- a number's first byte is odd, as the number is
abbrev pub is_odd : ℕ → Bool
is_odd b = b % 2 == 1

-- all bits of a number are 0, up to a byte of it and with it
abbrev pub is_zero_at : Bool → ℕ → Bool
is_zero_at zero b = zero && (b % 128 == 0)

-- a byte of a literal, where all bits up to it are 0 or not; a literal 0 ends the list, however many bytes it has
abbrev pub lit_seen : Bool → ℕ → Seen
lit_seen zero b =
    if nat_lt b 128 then (if zero then Later (Hint true) else Later (Lit true))
    else Later (Lit zero)

-- the same of a hint
abbrev pub hint_seen : Bool → ℕ → Seen
hint_seen zero b =
    if nat_lt b 128 then (if zero then Later Letter else Later (Hint true))
    else Later (Hint zero)

-- and of an id that is deleted
abbrev pub deleted_seen : Bool → ℕ → Seen
deleted_seen zero b =
    if nat_lt b 128 then (if zero then Later Letter else Later (Deleted true true))
    else Later (Deleted false zero)

-- one byte
abbrev pub seen_at : ℕ → Sight → ℕ → Seen
seen_at next Letter b = letter_seen next b
seen_at next (Id begins left same) b =
    if begins && is_odd b then Told false else id_seen left same b
seen_at next (Lit zero) b = lit_seen (is_zero_at zero b) b
seen_at next (Hint zero) b = hint_seen (is_zero_at zero b) b
seen_at next (Deleted begins zero) b =
    if begins && is_odd b then Told false else deleted_seen (is_zero_at zero b) b

-- whether the ids are doubled, by these bytes, where this id comes next after those of the formula
unfoldable pub are_doubled : ℕ → Sight → List ℕ → Bool
are_doubled next sight [] = true
are_doubled next sight (b ∷ bs) = elim (seen_at next sight b) [
  | Later later ↦ are_doubled next later bs
  | Told answer ↦ answer
]

abbrev pub told_before : ℕ → List ℕ → Ids
told_before next first = if are_doubled next Letter first then Doubled else Plain

-- after a formula of this many clauses
abbrev pub told_ids : ℕ → List ℕ → Ids
told_ids n first = told_before (next_id n) first

-- the ids that are given, or else those that are detected
abbrev pub ids_by : Option Ids → ℕ → List ℕ → Ids
ids_by (Some ids) n first = ids
ids_by None n first = told_ids n first

-- by these first bytes
abbrev pub form_by : Option Ids → ℕ → List ℕ → LratForm
form_by ids n first = if is_binary first then Binary (ids_by ids n first) else Text

-- by the first 4,096
abbrev pub form_of : Option Ids → ℕ → List ℕ → LratForm
form_of ids n bytes = form_by ids n (take 4096 bytes)
