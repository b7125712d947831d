-- User names in use.
--     is_taken names u      whether some variable has the name
--     times_taken names u      how many have it
--     AreDistinct names      no two variables have the same name
use Rattle.std.specs.Prelude.{◌≤◌, ℕ, Bool, List, if◌then◌else◌, sum_by}
use Rattle.std.specs.List.{list_any}
use Rattle.checker_rules.specs.KnownVars.{option_is}
use Rattle.checker_rules.specs.State.{Known}

-- whether some variable has the name
abbrev pub is_taken : List Known → ℕ → Bool
is_taken names u = list_any (λ k. option_is k.name u) names

-- how many variables have the name
abbrev pub times_taken : List Known → ℕ → ℕ
times_taken names u = sum_by (λ k. if option_is k.name u then 1 else 0) names

-- no two variables have the same name
abbrev pub AreDistinct : List Known → Type 0
AreDistinct names = (u : ℕ) → times_taken names u ≤ 1
