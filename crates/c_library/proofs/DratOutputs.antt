-- What is put of the outputs of a verified run.
use Rattle.std.proofs.Common.{◌≡◌, ◌∙◌, ap, subst, ℕ, List, [], ◌++◌, length, Option, None, Some, Result, Ok, Err, IfSome, IsSomeAnd, ◌⊎◌, inl, inr}
use Rattle.sat_output.specs.FormulaTexts.{formula_text}
use Rattle.sat_output.specs.LratTexts.{lines_text}
use Rattle.sat_output.specs.declared.form.LineForm.TheVariants.{Text}
use Rattle.std.specs.Global.{Vec}
use Rattle.verdicts.specs.declared.verdict.Verdict.{Verdict}
use Rattle.verdicts.specs.declared.verdict.Verdict.TheVariants.{Verified, NotVerified}
use Rattle.drat_check.specs.Outputs.{AllWritten, WritesOutputs, WroteCore, WroteProof, bytes_in}
use Rattle.verdicts.specs.Texts.{OfFormula}
use Rattle.drat_check.specs.Runs.{HasNoFormula}
use Rattle.drat_check.specs.declared.fault.RunFault.{RunFault}
use Rattle.drat_check.specs.declared.outputs.Outputs.{Outputs}
use Rattle.c_library.specs.DratCalls.{PlacesCore, PlacesLrat}
use Rattle.c_library.specs.Rooms.{IsPlaced}
use Rattle.c_library.specs.declared.room.Placed.{Placed}

-- the bytes of a text
abbrev held : Vec ℕ → Option (List ℕ)
held v = Some v.items

-- a text that was empty, and into which lines were written that refute the formula, was put
pub places_lrat : (formula : List (List ℕ)) (old new : List ℕ) (placed : Placed) (before after : Option (Vec ℕ)) (trim trim' : Option (List ℕ))
    → IsSomeAnd before (λ v. v.items ≡ [])
    → WroteProof Text formula (bytes_in held before) (bytes_in held after) trim trim'
    → IfSome after (λ v. IsPlaced v.items old new placed) → PlacesLrat formula old new placed
places_lrat formula old new placed None after trim trim' empty wrote is = absurd empty
places_lrat formula old new placed (Some v) None trim trim' empty wrote is = absurd wrote.text
places_lrat formula old new placed (Some v) (Some w) trim trim' empty wrote is = record {
  lines = wrote.lines;
  refuted = wrote.refuted;
  text = subst (λ t. IsPlaced t old new placed) (wrote.text ∙ ap (λ t. t ++ lines_text (length formula) wrote.lines) empty) is;
}

-- a text that was empty, and into which a part of the formula was written, was put
pub places_core : (formula : List (List ℕ)) (old new : List ℕ) (placed : Placed) (before after : Option (Vec ℕ))
    → IsSomeAnd before (λ v. v.items ≡ [])
    → WroteCore formula (bytes_in held before) (bytes_in held after)
    → IfSome after (λ v. IsPlaced v.items old new placed) → PlacesCore formula old new placed
places_core formula old new placed None after empty wrote is = absurd empty
places_core formula old new placed (Some v) None empty wrote is = absurd wrote.text
places_core formula old new placed (Some v) (Some w) empty wrote is = record {
  used = wrote.used;
  is_part = wrote.is_part;
  text = subst (λ t. IsPlaced t old new placed) (wrote.text ∙ ap (λ t. t ++ formula_text wrote.used) empty) is;
}

-- what a verified run wrote
pub both_written : (cnf : Option (List ℕ)) (before after : Outputs (Vec ℕ) (Vec ℕ))
    (r : Result Verdict RunFault) → r ≡ Ok Verified
    → OfFormula cnf (λ formula. WritesOutputs formula held held before after r) ⊎ HasNoFormula r
    → OfFormula cnf (λ formula. AllWritten formula held held before after)
both_written cnf before after (Ok Verified) is (inl wrote) = wrote
both_written cnf before after (Ok Verified) is (inr none) = absurd none
both_written cnf before after (Ok NotVerified) is wrote = absurd cc
both_written cnf before after (Err fault) is wrote = absurd cc
