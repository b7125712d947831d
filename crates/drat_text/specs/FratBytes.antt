-- The bytes with which FRAT steps begin, and how the format is detected from the first ones of a proof.
use Rattle.std.specs.Prelude.{ℕ, Bool, true, false, not, ◌||◌, List, [], ◌∷◌, Option, Some, None, ◌==◌, take, if◌then◌else◌}
use Rattle.sat_formula.specs.Bytes.{is_lf}
use Rattle.drat_text.specs.Bytes.{letter_a, letter_d, begins_comment, is_space}
use Rattle.drat_text.specs.declared.frat_step.FratAction.TheVariants.{Original, Add, Delete, Final}
use Rattle.drat_text.specs.declared.frat_telling.Sight.{Sight}
use Rattle.drat_text.specs.declared.frat_telling.Sight.TheVariants.{Later, Told}
use Rattle.drat_text.specs.FratSlots.{Slot, IdDue, HintDue, FromDue}

-- `f`, of a clause that is there still at the end
abbrev pub letter_f : ℕ
letter_f = 102

-- `l`, of hints
abbrev pub letter_l : ℕ
letter_l = 108

-- `o`, of a clause of the formula
abbrev pub letter_o : ℕ
letter_o = 111

-- `r`, of other ids
abbrev pub letter_r : ℕ
letter_r = 114

-- what is due after a step's letter
abbrev pub slot_begun : ℕ → Option Slot
slot_begun b =
    if b == letter_o then Some (IdDue Original)
    else (if b == letter_a then Some (IdDue Add)
    else (if b == letter_d then Some (IdDue Delete)
    else (if b == letter_f then Some (IdDue Final)
    else (if b == letter_l then Some (HintDue [])
    else (if b == letter_r then Some (FromDue []) else None)))))

-- ---- FRAT or DRAT

-- what a byte before the first step shows, in a comment or not: with `o`, `f`, `l` and `r` no step of DRAT begins
abbrev pub seen_at : Bool → ℕ → Sight
seen_at true b = Later (not (is_lf b))
seen_at false b =
    if begins_comment b then Later true
    else (if is_space b then Later false
    else Told ((b == letter_o) || ((b == letter_f) || ((b == letter_l) || (b == letter_r)))))

-- by the first step among these bytes, the first of which is in a comment or not
unfoldable pub told_by : Bool → List ℕ → Bool
told_by in_comment [] = false
told_by in_comment (b ∷ bs) = elim (seen_at in_comment b) [
  | Later next ↦ told_by next bs
  | Told answer ↦ answer
]

-- by the first 4,096 bytes
abbrev pub is_frat : List ℕ → Bool
is_frat bytes = told_by false (take 4096 bytes)
