-- The rules of FRAT: a step is a letter, and then numbers, whose meaning depends on what is due.
use Rattle.std.specs.Prelude.{ℕ, ◌^◌, Bool, ◌||◌, List, [], ◌∷◌, ◌++◌, Option, Some, None, Result, Ok, Err, nat_lt, is_some, ◌==◌, if◌then◌else◌}
use Rattle.sat_formula.specs.Bytes.{letter_c}
use Rattle.drat_text.specs.Numbers.{lit_said}
use Rattle.drat_text.specs.Places.{Rules, After, Within, Goes, Gives, Stops}
use Rattle.drat_text.specs.declared.bytes.Format.TheVariants.{Text}
use Rattle.drat_text.specs.declared.fault.DratKind.{DratKind}
use Rattle.drat_text.specs.declared.fault.DratKind.TheVariants.{Malformed, NumberTooLarge}
use Rattle.drat_text.specs.declared.frat_step.FratAction.{FratAction}
use Rattle.drat_text.specs.FratBytes.{slot_begun}
use Rattle.drat_text.specs.FratSlots.{Slot, IdDue, LitDue, HintDue, FromDue, ToDue, is_signed}
use Rattle.drat_text.specs.FratProofs.{Step, clause, hints, renames}

-- an id of this value leads on to this, where it is no more than 2^60 - 1
abbrev pub with_id : ℕ → Slot → After Slot Step
with_id v slot = if nat_lt v (2 ^ 60) then Goes (Within slot) else Stops NumberTooLarge

-- a number that is to say an id
abbrev pub id_due : Bool → ℕ → Result ℕ DratKind
id_due negative v =
    if negative || (v == 0) then Err Malformed
    else (if nat_lt v (2 ^ 60) then Ok v else Err NumberTooLarge)

-- it leads on to this
abbrev pub after_id : (ℕ → Slot) → Result ℕ DratKind → After Slot Step
after_id next (Ok id) = Goes (Within (next id))
after_id next (Err kind) = Stops kind

-- a literal, after these of a clause, or its end
abbrev pub lit_in : FratAction → ℕ → List ℕ → Result (Option ℕ) DratKind → After Slot Step
lit_in action id lits (Ok None) = Gives (clause action id lits)
lit_in action id lits (Ok (Some lit)) = Goes (Within (LitDue action id (lits ++ lit ∷ [])))
lit_in action id lits (Err kind) = Stops kind

-- a number of this value, after a `-` or not
abbrev pub said : Slot → Bool → ℕ → After Slot Step
said (IdDue action) negative v = after_id (λ id. LitDue action id []) (id_due negative v)
said (LitDue action id lits) negative v = lit_in action id lits (lit_said negative v)
said (HintDue hs) negative v =
    if v == 0 then (if negative then Stops Malformed else Gives (hints hs))
    else with_id v (HintDue (hs ++ record { id = v; is_negative = negative } ∷ []))
said (FromDue rs) negative v =
    if negative then Stops Malformed
    else (if v == 0 then Gives (renames rs) else with_id v (ToDue rs v))
said (ToDue rs from) negative v =
    after_id (λ to. FromDue (rs ++ record { from = from; to = to } ∷ [])) (id_due negative v)

-- binary where it begins with a step's letter, and a byte that no text can have is among the first 4,096; binary numbers
-- have at most nine bytes
abbrev pub frat : Rules Slot Step
frat = record {
  begins_comment = λ b. b == letter_c;
  letter = λ format b. slot_begun b;
  bare = None;
  is_signed = is_signed;
  said = said;
  last_weight = 2 ^ 56;
  first_tells = λ b. if is_some (slot_begun b) then None else Some Text;
}
