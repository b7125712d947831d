-- The draft of a FRAT step, and what it takes.
--     view      a step, with its list in place of a reference to it
--     slot_of draft, found_step draft found      what is due;  the step that has ended
use Rattle.std.specs.Prelude.{ℕ, List}
use Rattle.drat_text.specs.declared.frat.Draft.{Draft}
use Rattle.drat_text.specs.declared.frat.Due.{Due}
use Rattle.drat_text.specs.declared.frat.Due.TheVariants as dues
use Rattle.drat_text.specs.declared.frat.Found.{Found}
use Rattle.drat_text.specs.declared.frat.Found.TheVariants as founds
use Rattle.drat_text.specs.declared.frat_step.FratHint.{FratHint}
use Rattle.drat_text.specs.declared.frat_step.FratStep.{FratStep}
use Rattle.drat_text.specs.declared.frat_step.FratStep.TheVariants as steps
use Rattle.drat_text.specs.declared.frat_step.Renaming.{Renaming}
use Rattle.drat_text.specs.FratSlots.{Slot, IdDue, LitDue, HintDue, FromDue, ToDue}
use Rattle.drat_text.specs.FratProofs.{Step, clause, hints, renames}

-- the step, with its list in place of a reference to it
abbrev pub view : FratStep → Step
view (steps.Clause action id lits) = clause action id lits.now
view (steps.Hints hs) = hints hs.now
view (steps.Renames rs) = renames rs.now

-- what is due, after these lists
abbrev pub slot_at : Due → List ℕ → List FratHint → List Renaming → Slot
slot_at (dues.Id action) lits hs rs = IdDue action
slot_at (dues.Lit action id) lits hs rs = LitDue action id lits
slot_at dues.Hint lits hs rs = HintDue hs
slot_at dues.From lits hs rs = FromDue rs
slot_at (dues.To from) lits hs rs = ToDue rs from

-- what is due in a draft
abbrev pub slot_of : Draft → Slot
slot_of d = slot_at d.due d.lits.items d.hints.items d.renamings.items

-- the step of these lists that has ended
abbrev pub found_in : Found → List ℕ → List FratHint → List Renaming → Step
found_in (founds.Clause action id) lits hs rs = clause action id lits
found_in founds.Hints lits hs rs = hints hs
found_in founds.Renames lits hs rs = renames rs

-- the step of a draft that has ended
abbrev pub found_step : Draft → Found → Step
found_step d found = found_in found d.lits.items d.hints.items d.renamings.items
