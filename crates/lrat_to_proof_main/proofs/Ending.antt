-- How a call ends, by what holds of its conversion.
use Rattle.std.proofs.Common.{ℕ, Result, Ok, Err}
use Rattle.lrat_to_proof.specs.declared.conversion.Conversion.{Conversion}
use Rattle.lrat_to_proof_main.specs.Named.{EndsConversion}
use Rattle.verdicts.specs.declared.status.Refusal.{Refusal}

-- what holds of each conversion says more than what is asked
pub ends_weaker : (Holds Holds' : Conversion → Type 0) (Left : Type 0) → ((conversion : Conversion) → Holds conversion → Holds' conversion)
    → (result : Result ℕ Refusal) → EndsConversion Holds Left result → EndsConversion Holds' Left result
ends_weaker Holds Holds' Left more (Ok status) ends = (ends.0, ends.1, more ends.0 ends.2)
ends_weaker Holds Holds' Left more (Err refusal) left = left
