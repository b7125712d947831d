-- The variables of the code as the known variables of the definitions.
use Rattle.std.specs.Prelude.{◌≡◌, ◌^◌, ℕ, Bool, false, if◌then◌else◌, nat_lt, List, [], ◌∷◌, length, get_or, Option, Some, None}
use Rattle.sat_formula.specs.Vars.{indexes_of}
use Rattle.checker_rules.specs.State.{Known, Mode, hide, sample, witness}
use Rattle.checker_parts.specs.Names.{times_taken}
use Rattle.checker_parts.specs.declared.variables.SamplingMode.{SamplingMode}
use Rattle.checker_parts.specs.declared.variables.SamplingMode.TheVariants.{Sample, Witness, Hide}
use Rattle.checker_parts.specs.declared.variables.VarData.{VarData}

-- the mode
abbrev pub mode_of : SamplingMode → Mode
mode_of Sample = sample
mode_of Witness = witness
mode_of Hide = hide

-- name and mode
abbrev pub known_of_data : VarData → Known
known_of_data d = record { name = indexes_of d.user_var; mode = mode_of d.sampling_mode }

-- the name that a number stands for; none for one that no variable has as its index
abbrev pub name_of : ℕ → Option ℕ
name_of n = if nat_lt n (2 ^ 28) then Some n else None

-- the columns of names and modes as one list, the known variables
abbrev pub known_by : List ℕ → List SamplingMode → List Known
known_by [] ms = []
known_by (n ∷ ns) [] = []
known_by (n ∷ ns) (m ∷ ms) = record { name = name_of n; mode = mode_of m } ∷ known_by ns ms

-- each index is marked exactly if it is the user name of one variable, and of no more
abbrev pub IsMarked : List Known → List Bool → Type 0
IsMarked ks ts = (u : ℕ) → times_taken ks u ≡ (if get_or ts u false then 1 else 0)

-- the columns have one length, and the last marks the user names
pub record AreColumns (ns : List ℕ) (ms : List SamplingMode) (ts : List Bool) : Type 0 where
  pub modes : length ms ≡ length ns
  pub taken : length ts ≡ length ns
  pub marked : IsMarked (known_by ns ms) ts
