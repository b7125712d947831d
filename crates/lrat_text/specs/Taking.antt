-- What a call took from a reader's bytes, and what it says of them.
use Rattle.std.specs.Prelude.{◌≡◌, ℕ, Bool, List, ◌++◌, Option}
use Rattle.std.specs.Io.KnownBytes.{Consumes}
use Rattle.sat_formula.specs.Readings.{Continues}
use Rattle.lrat_text.specs.Bytes.{IsOpen}
use Rattle.lrat_text.specs.Texts.{Outcome, outcome_after}

-- after the line of number `before` the text continues so; or it has ended, and nothing is left
abbrev pub Follows : Option (List ℕ) → Option (List ℕ) → ℕ → Bool → (List ℕ → Outcome) → Type 0
Follows old new before over rest = Continues old new over (outcome_after before) rest

-- after lines that say nothing, the last of them of this number, a line was begun and not read to its end
pub record Breaks (old new : Option (List ℕ)) (before number : ℕ) : Type 0 where
  pub passed : List ℕ
  pub begun : List ℕ
  pub consumed : Consumes old new (passed ++ begun)
  pub same : (more : List ℕ) → outcome_after before (passed ++ more) ≡ outcome_after number more
  pub is_open : IsOpen begun
