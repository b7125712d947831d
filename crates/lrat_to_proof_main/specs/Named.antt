-- The file that a conversion names.
--     HasNamed      the bytes of the proof have their name
--     NamesBytes      the same, by the options of a call
--     Names      the same, by a call
--     EndsConversion Holds Left result      how a call ends, by its conversion
use Rattle.std.specs.Prelude.{◌≡◌, ℕ, List, [], ◌∷◌, Option, Some, None, Result, Ok, Err, codes}
use Rattle.command.specs.Calls.{Choice, choices_of, meant, operands_of, value_given}
use Rattle.command.specs.Inputs.{bytes_named}
use Rattle.command.specs.Outputs.{Gives}
use Rattle.command.specs.declared.call.Call.{Call}
use Rattle.lrat_binary.specs.declared.ids.Ids.{Ids}
use Rattle.lrat_binary.specs.declared.ids.Ids.TheVariants.{Plain, Doubled}
use Rattle.lrat_to_proof.specs.Conversions.{shows_unsat}
use Rattle.lrat_to_proof.specs.Runs.{IsAfterFormula}
use Rattle.lrat_to_proof.specs.declared.conversion.Conversion.{Conversion}
use Rattle.verdicts.specs.Statuses.{status_shown}
use Rattle.verdicts.specs.declared.status.Refusal.{Refusal}

-- the whole text is a formula, after which the proof was converted, and the file of its bytes was renamed to the place
pub record HasNamed (ids : Option Ids) (width : ℕ) (place : Option (List ℕ)) (cnf lines : Option (List ℕ))
    (conversion : Conversion) (old new : Option (List (List ℕ × List ℕ))) : Type 0 where
  pub bytes : Option (List ℕ)
  pub run : IsAfterFormula ids cnf lines width (Some []) bytes (Ok conversion)
  pub named : Gives old new place bytes

-- the encoding of ids is that which the options name, and hashes have 64 bits, unless they name another width
pub record NamesBytes (options : List Choice) (place : Option (List ℕ)) (cnf lines : Option (List ℕ))
    (conversion : Conversion) (old new : Option (List (List ℕ × List ℕ))) : Type 0 where
  pub ids : Option Ids
  pub meant_ids : Some ids ≡ meant (λ word. word)
      ((codes "plain", Plain) ∷ (codes "doubled", Doubled) ∷ []) (value_given options (codes "--ids"))
  pub width : ℕ
  pub full : value_given options (codes "--width") ≡ None → width ≡ 64
  pub has : HasNamed ids width place cnf lines conversion old new

-- that of the third operand, if the bytes of the two inputs are known
abbrev pub Names : (List ℕ → Option (List ℕ)) → Option (List ℕ) → Option (List ℕ) → (List ℕ → Option (List ℕ)) → Call
    → Option (List (List ℕ × List ℕ)) → Option (List (List ℕ × List ℕ)) → Conversion → Type 0
Names files input unwritten place call old new conversion = (cnf lrat proof text lines : List ℕ)
    → operands_of call ≡ cnf ∷ lrat ∷ proof ∷ []
    → bytes_named files input cnf ≡ Some text → bytes_named files input lrat ≡ Some lines
    → unwritten ≡ Some []
    → NamesBytes (choices_of call) (place proof) (Some text) (Some lines) conversion old new

-- of some conversion this holds, and the status is its own; or the call was refused, and left this
abbrev pub EndsConversion : (Conversion → Type 0) → Type 0 → Result ℕ Refusal → Type 0
EndsConversion Holds Left (Ok status) =
    (conversion : Conversion) × (status ≡ status_shown shows_unsat conversion) × Holds conversion
EndsConversion Holds Left (Err refusal) = Left
