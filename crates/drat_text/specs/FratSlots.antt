-- What is due next in a FRAT step, after what was read of it.
use Rattle.std.specs.Prelude.{ℕ, Bool, true, false, List}
use Rattle.drat_text.specs.declared.frat_step.FratAction.{FratAction}
use Rattle.drat_text.specs.declared.frat_step.FratHint.{FratHint}
use Rattle.drat_text.specs.declared.frat_step.Renaming.{Renaming}

-- a clause's id; a literal after these; a hint after these; a clause's old id after these pairs, and its new one
pub data Slot : Type 0 where
  IdDue : FratAction → Slot
  LitDue : FratAction → ℕ → List ℕ → Slot
  HintDue : List FratHint → Slot
  FromDue : List Renaming → Slot
  ToDue : List Renaming → ℕ → Slot

-- literals and hints have signs
abbrev pub is_signed : Slot → Bool
is_signed (IdDue action) = false
is_signed (LitDue action id lits) = true
is_signed (HintDue hints) = true
is_signed (FromDue renamings) = false
is_signed (ToDue renamings from) = false
