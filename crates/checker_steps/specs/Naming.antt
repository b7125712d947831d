-- Names and modes of known variables, and why they don't change.
--     sampling_var x s      a variable made known, unless it is in another mode than `Sample`
--     naming_cause known x u, IsNamingCause r known x u      why a variable is given no name
--     mode_cause known x b, in_mode known x b, changed_name known x b      why a mode stays, the change, and the user name to be shown
--     AnswersMode r x b known known'      the answer of the code and the change
use Rattle.std.specs.Prelude.{◌≡◌, ℕ, suc, Bool, if◌then◌else◌, not, ◌&&◌, ◌||◌, nat_lt, List, length, set, Option, None, Some, is_none, is_some, Result, Ok, Err}
use Rattle.checker_rules.specs.ChangeSamplingMode.{mode_is}
use Rattle.checker_rules.specs.KnownVars.{is_hide, is_sample, know, known_of, name_among}
use Rattle.checker_rules.specs.Outcome.{Cause, Outcome, accept, name_in_use, not_sampling, refuse, sample_hidden, still_hidden, user_name_taken}
use Rattle.checker_rules.specs.State.{Known, State, sample, witness}
use Rattle.checker_rules.specs.Transcript.{known_at}
use Rattle.checker_parts.specs.Causes.{cause_of}
use Rattle.checker_parts.specs.declared.error.CheckCause.{CheckCause}
use Rattle.sat_formula.specs.Vars.{indexes_of}
use Rattle.sat_formula.specs.declared.lit.Var.{Var}

-- a variable made known, unless it is in another mode than `Sample`
abbrev pub sampling_var : ℕ → State → Outcome
sampling_var x s =
    if is_sample (known_of s x).mode then accept (know (suc x) s)
    else refuse not_sampling s

-- why a known variable is given no name
abbrev pub naming_cause : List Known → ℕ → ℕ → Option Cause
naming_cause known x u =
    if not (nat_lt u (length known)) || name_among u known then Some user_name_taken
    else if is_hide (known_at known x).mode then Some still_hidden
    else if is_some (known_at known x).name then Some name_in_use
    else None

-- the cause of the code is that cause
abbrev pub IsNamingCause : Option CheckCause → List Known → ℕ → ℕ → Type 0
IsNamingCause None known x u = naming_cause known x u ≡ None
IsNamingCause (Some msg) known x u = naming_cause known x u ≡ Some (cause_of msg)

-- why a known variable keeps its mode, where that is rejected
abbrev pub mode_cause : List Known → ℕ → Bool → Option Cause
mode_cause known x to_sample =
    if mode_is (known_at known x).mode to_sample then None
    else if to_sample && is_none (known_at known x).name then Some sample_hidden
    else None

-- the known variables with the variable in mode `Sample` or `Witness`
abbrev pub in_mode : List Known → ℕ → Bool → List Known
in_mode known x to_sample =
    if mode_is (known_at known x).mode to_sample then known
    else set known x (record {
      name = (known_at known x).name;
      mode = if to_sample then sample
          else witness;
    })

-- the user name of a variable that is not in the mode
abbrev pub changed_name : List Known → ℕ → Bool → Option ℕ
changed_name known x to_sample =
    if mode_is (known_at known x).mode to_sample then None
    else (known_at known x).name

-- the mode is changed and the user name answered, where there is one and the mode was another, or the cause is
abbrev pub AnswersMode : Result (Option Var) CheckCause → ℕ → Bool → List Known → List Known →
    Type 0
AnswersMode (Ok name) x to_sample known known' = (mode_cause known x to_sample ≡ None)
    × (known' ≡ in_mode known x to_sample) × (indexes_of name ≡ changed_name known x to_sample)
AnswersMode (Err msg) x to_sample known known' =
    (mode_cause known x to_sample ≡ Some (cause_of msg)) × (known' ≡ known)
