-- The rules of DRAT: a step is literals up to a 0, and adds their clause or deletes one.
use Rattle.std.specs.Prelude.{ℕ, ◌^◌, true, List, [], ◌∷◌, ◌++◌, Option, Some, None, Result, Ok, Err, ◌==◌, if◌then◌else◌}
use Rattle.drat_text.specs.declared.bytes.Format.{Format}
use Rattle.drat_text.specs.declared.bytes.Format.TheVariants.{Text, Binary}
use Rattle.drat_text.specs.declared.drat.Action.{Action}
use Rattle.drat_text.specs.declared.drat.Action.TheVariants.{Add, Delete}
use Rattle.drat_text.specs.declared.drat.Draft.{Draft}
use Rattle.drat_text.specs.declared.drat.DratStep.{DratStep}
use Rattle.drat_text.specs.declared.drat.DratStep.TheVariants as steps
use Rattle.drat_text.specs.declared.fault.DratKind.{DratKind}
use Rattle.drat_text.specs.Bytes.{letter_a, letter_d, begins_comment}
use Rattle.drat_text.specs.Numbers.{lit_said}
use Rattle.drat_text.specs.Places.{Rules, After, Within, Goes, Gives, Stops}

-- a clause is added, or one is deleted; literals are codes
pub data Step : Type 0 where
  adds : List ℕ → Step
  deletes : List ℕ → Step

-- by what it does
abbrev pub step_of : Action → List ℕ → Step
step_of Add lits = adds lits
step_of Delete lits = deletes lits

-- the step, with its list in place of a reference to it
abbrev pub view : DratStep → Step
view (steps.Add lits) = adds lits.now
view (steps.Delete lits) = deletes lits.now

-- what was read of a step: what it does, and its literals
abbrev pub Slot : Type 0
Slot = Action × List ℕ

-- what was read into a draft
abbrev pub slot_of : Draft → Slot
slot_of d = (d.action, d.lits.items)

-- the letter of a step: `d`, and in binary steps `a`
abbrev pub letter : Format → ℕ → Option Slot
letter Text b = if b == letter_d then Some (Delete, []) else None
letter Binary b =
    if b == letter_a then Some (Add, []) else (if b == letter_d then Some (Delete, []) else None)

-- a literal more, or the end of the step
abbrev pub said : Slot → Result (Option ℕ) DratKind → After Slot Step
said slot (Ok None) = Gives (step_of slot.0 slot.1)
said slot (Ok (Some lit)) = Goes (Within (slot.0, slot.1 ++ lit ∷ []))
said slot (Err kind) = Stops kind

-- binary steps begin with an `a`, or with a `d` where a byte that no text can have is among the first 4,096
abbrev pub first_tells : ℕ → Option Format
first_tells b =
    if b == letter_a then Some Binary else (if b == letter_d then None else Some Text)

-- a text may begin a step without a letter, which adds; binary numbers have at most five bytes
abbrev pub drat : Rules Slot Step
drat = record {
  begins_comment = begins_comment;
  letter = letter;
  bare = Some (Add, []);
  is_signed = λ slot. true;
  said = λ slot negative v. said slot (lit_said negative v);
  last_weight = 2 ^ 28;
  first_tells = first_tells;
}
